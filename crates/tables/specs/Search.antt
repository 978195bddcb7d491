-- Rising numbers, and a value's place among them.
use Rattle.std.specs.Prelude.{ℕ, ◌+◌, ◌≤◌, ◌<◌, List, get_or}

-- the numbers from place p up to e rise
abbrev pub Rising : List ℕ → ℕ → ℕ → Type 0
Rising s p e = (k : ℕ) → p ≤ k → k + 1 < e → get_or s k 0 < get_or s (k + 1) 0

-- r is the first place from p up to e whose number is not below x
pub record PlaceOf (s : List ℕ) (p e x r : ℕ) : Type 0 where
  pub from_first : p ≤ r
  pub to_end : r ≤ e
  pub below : (k : ℕ) → p ≤ k → k < r → get_or s k 0 < x
  pub reached : r < e → x ≤ get_or s r 0
