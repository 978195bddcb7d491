-- Rows that hold the cuts of some rules, and the room that these need.
use Rattle.std.specs.Prelude.{List, [], ◌∷◌, ℕ, ◌+◌, ◌*◌, ◌≤◌, length}
use Rattle.laws.specs.Lists.{All}
use Rattle.definition.specs.Rule.{Rule}
use Rattle.definition.specs.Point.{Dimension}
use Rattle.definition.specs.Box.{all_ranges}
use Rattle.paving_cuts.specs.Cuts.{Rowed, start_row}

-- each dimension's cuts have room: both bounds, and both ends of each range
abbrev pub Roomy : ℕ → List Rule → List Dimension → Type 0
Roomy room rs = All (λ d. 2 + 2 * length (all_ranges rs d) ≤ room)

-- both bounds of each dimension, the first dimension's first
unfoldable pub start_rows : List ℕ → List Dimension → Rowed → Rowed
start_rows rows [] t = t
start_rows rows (d ∷ ds) t = start_rows rows ds (start_row rows (length ds) d.bounds.0 d.bounds.1 t)
