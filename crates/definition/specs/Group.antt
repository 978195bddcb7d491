-- 01, "From points to rules": "Classes of day lists: all Open; first Open; all Unknown; first Unknown; any other non-empty." The groups
-- class after class, with growing and emptying, are `groups` of the crate grid (its specs/Group). "Write the list's entries as
-- rules over these sets' maximal runs, first Normal, others Additional, step 1, offset 0, nth bits all 1; a full dimension has
-- no items."
use mathlib.Core.List.{List, [], ◌∷◌, map, flat_map}
use Rattle.std.specs.Prelude.{Bool, true, false, ◌&&◌, cond, ℕ, ◌-◌, eqb}
use Rattle.laws.specs.Lists.{every}
use Rattle.laws.specs.Tests.{same_list, same_pair}
use Rattle.grid.specs.Group.{Map, groups}
use Rattle.grid.specs.Cut.{Range, as_runs}
use Rattle.definition.specs.Rule.{Operator, Normal, Additional, Kind, Open, Unknown, kind_number, same_state, same_span, Rule}
use Rattle.definition.specs.Range.{Ends}
use Rattle.definition.specs.Point.{Dimension, dimensions, points, list_at}
use Rattle.definition.specs.Day.{Entry, Day, day}

-- the day of each point
unfoldable pub day_at : List Rule → Map ℕ Day
day_at rs p = day (list_at rs p)

-- two days are the same where their entries are, span by span
abbrev pub same_day : Day → Day → Bool
same_day = same_list (same_pair same_state (same_list same_span))

-- ## Classes
abbrev pub is_kind : Kind → Entry → Bool
is_kind k e = eqb (kind_number e.0.kind) (kind_number k)

abbrev pub non_empty : Day → Bool
non_empty [] = false
non_empty (e ∷ d) = true

abbrev pub first_is : Kind → Day → Bool
first_is k [] = false
first_is k (e ∷ d) = is_kind k e

abbrev pub all_are : Kind → Day → Bool
all_are k d = non_empty d && every (is_kind k) d

-- class after class, so "any other" needs no test of the classes before it
abbrev pub day_classes : List (Day → Bool)
day_classes = all_are Open ∷ first_is Open ∷ all_are Unknown ∷ first_is Unknown ∷ non_empty ∷ []

-- the first of the classes that a day is of, 0 for none
unfoldable pub day_class : Day → ℕ
day_class [] = 0
day_class (e ∷ d) =
    cond (all_are Open (e ∷ d)) 1 (cond (first_is Open (e ∷ d)) 2 (cond (all_are Unknown (e ∷ d)) 3 (cond (first_is Unknown (e ∷ d)) 4 5)))

-- a group: its day, and in each dimension the maximal runs of its set
abbrev pub Page : Type 0
Page = Day × List (List Range)

unfoldable pub pages : List Rule → List Page
pages rs = map as_runs (groups same_day eqb [] day_classes points (day_at rs))

-- ## The rules of a group
-- runs as items; a full dimension has none
unfoldable pub items_of : Range → List Range → List Ends
items_of bounds [] = []
items_of bounds (r ∷ rs) = elim (eqb r.0 bounds.0 && eqb r.1 bounds.1) [ true ↦ [] | false ↦ map (λ q. (q.0, q.1 - 1)) (r ∷ rs) ]

-- a rule laid over runs, dimension by dimension
unfoldable pub laid_over : List Dimension → List (List Range) → Rule → Rule
laid_over [] Rs r = r
laid_over (d ∷ ds) [] r = r
laid_over (d ∷ ds) (R ∷ Rs) r = laid_over ds Rs (d.over (items_of d.bounds R) r)

abbrev pub as_rule : Operator → Entry → Rule
as_rule o e = record { operator = o; state = e.0; years = []; monthdays = []; weeks = []; weekdays = []; spans = e.1 }

-- "first Normal, others Additional"
abbrev pub as_rules : Day → List Rule
as_rules [] = []
as_rules (e ∷ d) = as_rule Normal e ∷ map (as_rule Additional) d

unfoldable pub rules_of : Page → List Rule
rules_of g = map (laid_over dimensions g.1) (as_rules g.0)

-- THE FOLDED RULES of drained ones
unfoldable pub folded : List Rule → List Rule
folded rs = flat_map rules_of (pages rs)
