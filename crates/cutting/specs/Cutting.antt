-- What the rows of cuts must be: four of them, at equal distances, all there.
use Rattle.std.specs.Prelude.{◌≡◌, List, ℕ, ◌*◌, ◌≤◌, ◌<◌, length, get_or}

-- a row for each of the four dimensions, one behind the other
abbrev pub Placed : ℕ → List ℕ → Type 0
Placed places rows = (i : ℕ) → i < 4 → get_or rows i 0 ≡ i * places

-- rows of so many places, all of them there
pub record Rows (places : ℕ) (rows sizes : List ℕ) (cuts : ℕ) : Type 0 where
  pub four-rows : length rows ≡ 4
  pub four-sizes : length sizes ≡ 4
  pub all-cuts : 4 * places ≤ cuts
  pub placed : Placed places rows
