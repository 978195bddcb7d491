-- Short lists.
use Rattle.std.specs.Prelude.{List, ℕ, ◌*◌, ◌≤◌, ◌<◌, get_or}
use Rattle.tables.specs.Sizes.{list_places}

-- none of so many lists has more than 4 rules
abbrev pub AllShort : List ℕ → ℕ → Type 0
AllShort lists used = (i : ℕ) → i < used → get_or lists (i * list_places) 0 ≤ 4
