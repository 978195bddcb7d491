-- The bits at a place as one number, wide enough for all fields of an item: each field is a part of it.
use Rattle.std.specs.Prelude.{◌≡◌, List, ℕ, ◌+◌, ◌≤◌, ◌<◌, length}
use Rattle.laws.specs.Lists.{All}
use Rattle.definition.specs.Field.{field_at}

-- n is the number in the w bits at p
pub record Wide (s : List ℕ) (p w n : ℕ) : Type 0 where
  pub bits : All (λ b. b < 2) s
  pub room : p + w ≤ length s
  pub same : n ≡ field_at s p w
