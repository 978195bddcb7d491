-- A popped group as a page of the definition: a day, and in each dimension the runs of the marked intervals.
use Rattle.std.specs.Prelude.{List, [], ◌∷◌, map, ℕ, zero, suc}
use Rattle.grid.specs.Group.{Set, Group}
use Rattle.grid.specs.Cut.{Range, joined}
use Rattle.definition.specs.Day.{Day}
use Rattle.definition.specs.Group.{Page}
use Rattle.tables.specs.Cuts.{interval_at}

-- the marked intervals of each dimension, those that touch joined
unfoldable pub runs_of : (ℕ → ℕ → ℕ) → ℕ → Set ℕ → List (List Range)
runs_of cut zero S = []
runs_of cut (suc i) [] = []
runs_of cut (suc i) (E ∷ S) = joined (map (interval_at (cut i)) E) ∷ runs_of cut i S

-- the day that a group's value numbers, and its runs
abbrev pub page_of : (ℕ → Day) → (ℕ → ℕ → ℕ) → ℕ → Group ℕ ℕ → Page
page_of day_of cut l g = (day_of g.0, runs_of cut l g.1)
