-- The runs of marked columns between rising cuts, and the items that they are. 01, "From points to rules": "over these sets' maximal
-- runs .. a full dimension has no items".
use Rattle.std.specs.Prelude.{Bool, true, false, List, map, ℕ, zero, suc, ◌+◌, ◌-◌, ◌<◌, eqb, length, get_or}
use Rattle.laws.specs.Lists.{from, keep}
use Rattle.grid.specs.Cut.{Range, joined}
use Rattle.definition.specs.Range.{Ends}
use Rattle.definition.specs.Group.{items_of}
use Rattle.paving.specs.Grid.{marks_from}
use Rattle.tables.specs.Cuts.{interval_at}

-- the runs of those of n columns from x on that pass a test
unfoldable pub runs_of : (ℕ → ℕ) → (ℕ → Bool) → ℕ → ℕ → List Range
runs_of cut t x n = joined (map (interval_at cut) (keep t (from x n)))

-- the first of n columns from x on that fails it, or the column behind them
unfoldable pub run_end : (ℕ → Bool) → ℕ → ℕ → ℕ
run_end t x zero = x
run_end t x (suc n) = elim (t x) [ true ↦ run_end t (suc x) n | false ↦ x ]

-- ## In slices
abbrev pub mark_at : List ℕ → ℕ → ℕ → Bool
mark_at marks base x = eqb (get_or marks (base + x) 0) 1

abbrev pub cut_of : List ℕ → ℕ → ℕ → ℕ
cut_of cuts row x = get_or cuts (row + x) 0

-- a dimension's cuts are all there, and rise
pub record Cuts (cuts : List ℕ) (row width : ℕ) : Type 0 where
  pub inside : row + width < length cuts
  pub rising : (x : ℕ) → x < width → cut_of cuts row x < cut_of cuts row (suc x)

-- the runs of the marked columns from x on
abbrev pub runs_from : List ℕ → ℕ → ℕ → List ℕ → ℕ → ℕ → List Range
runs_from marks base width cuts row x = joined (map (interval_at (cut_of cuts row)) (marks_from marks base width x))

-- ## Items
-- a run as an item, and items as numbers
abbrev pub as_item : Range → Ends
as_item q = (q.0, q.1 - 1)

-- the items of a dimension
abbrev pub items_at : List ℕ → ℕ → ℕ → List ℕ → ℕ → List Ends
items_at marks base width cuts row = items_of (cut_of cuts row 0, cut_of cuts row width) (runs_from marks base width cuts row 0)
