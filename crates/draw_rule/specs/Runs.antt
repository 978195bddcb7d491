-- The columns that a rule's ranges cover, as runs: a table with a first column and the column behind the last, at the places that the range's ends
-- have in theirs. And the boxes that are reached over the runs.
use Rattle.std.specs.Prelude.{◌≡◌, true, false, ℕ, zero, suc, ◌+◌, ◌-◌, ◌*◌, ◌≤◌, ◌<◌, length, get_or}
use mathlib.Core.List.{List, [], ◌∷◌, flat_map}
use Rattle.laws.specs.Lists.{from}
use Rattle.paving.specs.Grid.{size_of}
use Rattle.tables.specs.Search.{PlaceOf}
use Rattle.tables.specs.Sizes.{range_places}
use Rattle.draw_rule.specs.Update.{covered}

-- ## Runs found
-- the places of a range's ends among the cuts from one place up to another, counted from the first of these places; nothing before it is written
pub record Placed (cuts ranges runs runs' : List ℕ) (first end at : ℕ) : Type 0 where
  pub kept : (k : ℕ) → k < at → get_or runs' k 0 ≡ get_or runs k 0
  pub begins : PlaceOf cuts first end (get_or ranges at 0) (first + get_or runs' at 0)
  pub ends : PlaceOf cuts (first + get_or runs' at 0) end (get_or ranges (at + 1) 0) (first + get_or runs' (at + 1) 0)

-- the run of range r in dimension i
abbrev pub begin_of : List ℕ → ℕ → ℕ → ℕ
begin_of runs i r = get_or runs (i * range_places + 2 * r) 0

abbrev pub end_of : List ℕ → ℕ → ℕ → ℕ
end_of runs i r = get_or runs (i * range_places + 2 * r + 1) 0

-- the columns from one up to another are those, of so many, that a range covers
pub record RunOf (rows cuts ranges : List ℕ) (i r width begin end : ℕ) : Type 0 where
  pub ordered : begin ≤ end
  pub inside : end ≤ width
  pub before : (k : ℕ) → k < begin → covered rows cuts ranges i r k ≡ false
  pub within : (k : ℕ) → begin ≤ k → k < end → covered rows cuts ranges i r k ≡ true
  pub behind : (k : ℕ) → end ≤ k → k < width → covered rows cuts ranges i r k ≡ false

-- the table has the runs of the first n ranges of a dimension; of all ranges of the first l dimensions
abbrev pub RowRuns : (sizes rows cuts ranges runs : List ℕ) → ℕ → ℕ → Type 0
RowRuns sizes rows cuts ranges runs i n = (r : ℕ) → r < n → RunOf rows cuts ranges i r (get_or sizes i 0) (begin_of runs i r) (end_of runs i r)

abbrev pub RunsUpTo : (sizes counts rows cuts ranges runs : List ℕ) → ℕ → Type 0
RunsUpTo sizes counts rows cuts ranges runs l = (i : ℕ) → i < l → RowRuns sizes rows cuts ranges runs i (get_or counts i 0)

-- ## Boxes reached
-- a table of runs within the columns of four dimensions
pub record Planned (sizes counts runs : List ℕ) : Type 0 where
  pub all-sizes : 4 ≤ length sizes
  pub all-counts : 4 ≤ length counts
  pub all_runs : 4 * range_places ≤ length runs
  pub count : (i : ℕ) → i < 4 → get_or counts i 0 * 2 ≤ range_places
  pub ordered : (i r : ℕ) → i < 4 → r < get_or counts i 0 → begin_of runs i r ≤ end_of runs i r
  pub inside : (i r : ℕ) → i < 4 → r < get_or counts i 0 → end_of runs i r ≤ get_or sizes i 0

-- the cells below the nodes before one, with l dimensions left, are all there
pub record Nodes (cells : ℕ) (sizes : List ℕ) (l end : ℕ) : Type 0 where
  pub filled : (k : ℕ) → k < l → 1 ≤ get_or sizes k 0
  pub below : end * size_of sizes l ≤ cells

-- the columns of a run below a node: the first, and the one behind the last
abbrev pub first_below : (sizes runs : List ℕ) → ℕ → ℕ → ℕ → ℕ
first_below sizes runs i node r = node * get_or sizes i 0 + begin_of runs i r

abbrev pub end_below : (sizes runs : List ℕ) → ℕ → ℕ → ℕ → ℕ
end_below sizes runs i node r = node * get_or sizes i 0 + end_of runs i r

module _ (sizes counts runs : List ℕ) where
  -- what is reached over the run of range r below a node; `below` gives what is reached from a column
  unfoldable pub over_run : ℕ → (ℕ → List ℕ) → ℕ → ℕ → List ℕ
  over_run i below node r = flat_map below (from (first_below sizes runs i node r) (end_below sizes runs i node r - first_below sizes runs i node r))

  -- all boxes that are reached from a node with l dimensions left
  unfoldable pub reached : ℕ → ℕ → List ℕ
  reached zero node = node ∷ []
  reached (suc i) node = flat_map (over_run i (reached i) node) (from 0 (get_or counts i 0))

  -- those reached from the nodes from one up to another
  unfoldable pub reached_from : ℕ → ℕ → ℕ → List ℕ
  reached_from l first end = flat_map (reached l) (from first (end - first))
