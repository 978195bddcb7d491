-- A rule over a page's items, sort by sort; and the rules of a group.
use Rattle.std.specs.Prelude.{List, [], ◌∷◌, map, ℕ}
use Rattle.grid.specs.Group.{Group}
use Rattle.definition.specs.Rule.{Rule}
use Rattle.definition.specs.Range.{Ends}
use Rattle.definition.specs.Point.{Dimension, year_dimension, month_dimension, week_dimension, weekday_dimension}
use Rattle.definition.specs.Day.{Day}
use Rattle.definition.specs.Group.{as_rules}
use Rattle.paving_pages.specs.Pages.{page_items}

-- the dimensions by sort
abbrev pub sorts : List Dimension
sorts = year_dimension ∷ month_dimension ∷ week_dimension ∷ weekday_dimension ∷ []

-- a rule with given items of each sort
unfoldable pub over_sorts : List Dimension → List (List Ends) → Rule → Rule
over_sorts [] Es r = r
over_sorts (d ∷ ds) [] r = r
over_sorts (d ∷ ds) (E ∷ Es) r = d.over E (over_sorts ds Es r)

-- the rules of a group: its items over the entries of the day that its value numbers
unfoldable pub group_rules : List ℕ → List ℕ → List ℕ → (ℕ → Day) → Group ℕ ℕ → List Rule
group_rules rows cuts sizes day_of g = map (over_sorts sorts (page_items rows cuts sizes 4 g.1)) (as_rules (day_of g.0))
