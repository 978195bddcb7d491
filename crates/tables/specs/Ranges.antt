-- A rule's days in two tables: for each dimension how many ranges the rule has in it, and these as start, end, start, end ..
use Rattle.std.specs.Prelude.{List, [], ◌∷◌, map, ℕ, zero, suc, ◌+◌, ◌*◌, get_or, take, drop}
use Rattle.laws.specs.Lists.{from}
use Rattle.grid.specs.Cut.{Range}
use Rattle.tables.specs.Sizes.{range_places}

-- row k of a table whose rows have n numbers
abbrev pub table_row : List ℕ → ℕ → ℕ → List ℕ
table_row table k n = take n (drop (k * n) table)

-- range r of dimension i
unfoldable pub range_of : List ℕ → ℕ → ℕ → Range
range_of ranges i r = (get_or ranges (i * range_places + 2 * r) 0, get_or ranges (i * range_places + 2 * r + 1) 0)

-- THE RANGES of l dimensions, the last one first: weekdays, weeks, months, years
unfoldable pub selector_of : List ℕ → List ℕ → ℕ → List (List Range)
selector_of counts ranges zero = []
selector_of counts ranges (suc i) = map (range_of ranges i) (from 0 (get_or counts i 0)) ∷ selector_of counts ranges i
