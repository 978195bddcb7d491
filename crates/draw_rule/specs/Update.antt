-- The boxes of a grid that a rule's ranges cover, once for each combination of one covering range per dimension.
use Rattle.std.specs.Prelude.{Bool, cond, ℕ, zero, suc, ◌+◌, ◌*◌, ◌≤◌, ◌<◌, eqb, length, get_or}
use mathlib.Core.List.{List, [], ◌∷◌, flat_map}
use Rattle.laws.specs.Lists.{from, any_of}
use Rattle.grid.specs.Cut.{holds}
use Rattle.tables.specs.Sizes.{range_places}
use Rattle.tables.specs.Cuts.{cut_of, RowsRise}
use Rattle.tables.specs.Ranges.{range_of}

-- Tables that have a row for each dimension, of its cuts, which rise, and of a rule's ranges.
pub record Lawful (sizes counts rows cuts ranges : List ℕ) : Type 0 where
  pub all-counts : length sizes ≤ length counts
  pub all-rows : length sizes ≤ length rows
  pub all-ranges : length sizes * range_places ≤ length ranges
  pub row : (i : ℕ) → i < length sizes → get_or rows i 0 + get_or sizes i 0 < length cuts
  pub count : (i : ℕ) → i < length sizes → get_or counts i 0 * 2 ≤ range_places
  pub rising : RowsRise rows sizes cuts (length sizes)

-- does a range cover a column? It does where the column's start lies in it: a range's ends are cuts
unfoldable pub covered : List ℕ → List ℕ → List ℕ → ℕ → ℕ → ℕ → Bool
covered rows cuts ranges i r x = holds (cut_of rows cuts i x) (range_of ranges i r)

-- ## The covered boxes, with repeats
module _ (sizes counts rows cuts ranges : List ℕ) where
  -- below the columns of a node that the range r of dimension i covers; `below` gives those of a column
  unfoldable pub over_columns : ℕ → (ℕ → List ℕ) → ℕ → ℕ → List ℕ
  over_columns i below node r = flat_map (λ y. cond (covered rows cuts ranges i r y) (below (node * get_or sizes i 0 + y)) []) (from 0 (get_or sizes i 0))

  -- all that lie below a node with l dimensions left
  unfoldable pub leaves : ℕ → ℕ → List ℕ
  leaves zero node = node ∷ []
  leaves (suc i) node = flat_map (over_columns i (leaves i) node) (from 0 (get_or counts i 0))

  -- does the rule cover a box, of all four dimensions?
  unfoldable pub covered_box : ℕ → Bool
  covered_box box = any_of (eqb box) (leaves 4 0)
