-- Words copied within a list: so many from one place to another, and no other is changed.
use Rattle.std.specs.Prelude.{◌≡◌, List, ℕ, ◌+◌, ◌≤◌, ◌<◌, get_or}

pub record Copied (words after : List ℕ) (at to count : ℕ) : Type 0 where
  pub copied : (k : ℕ) → k < count → get_or after (to + k) 0 ≡ get_or words (at + k) 0
  pub low : (i : ℕ) → i < to → get_or after i 0 ≡ get_or words i 0
  pub high : (i : ℕ) → to + count ≤ i → get_or after i 0 ≡ get_or words i 0
