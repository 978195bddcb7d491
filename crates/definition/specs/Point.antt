-- 01, "From rules to points": "A point is a weekday, week 1 to 53, month and year 1900 to 9999, whether or not a calendar day has it."
-- Draining: "A Normal rule that isn't Closed replaces the list at each point it covers by itself alone. Any other appends itself, once
-- for each combination of one covering range per dimension, so overlaps append repeatedly." Since 02's M-101 such rules are refused: proofs/Once
-- shows that a rule of a sheet that is not refused covers a point at most once.
use mathlib.Core.List.{List, [], ◌∷◌, ◌++◌, map, flat_map}
use Rattle.std.specs.Prelude.{Bool, true, false, ◌&&◌, not, cond, ℕ, ◌*◌, eqb, replicate}
use Rattle.laws.specs.Lists.{count}
use Rattle.grid.specs.Group.{Set}
use Rattle.grid.specs.Cut.{Range, holds, coordinates}
use Rattle.definition.specs.Rule.{weekday_bounds, week_bounds, month_bounds, year_bounds, Operator, Normal, Additional, Fallback, Kind, Open, Closed, Unknown, MonthdayRange, months, months_of, dated, WeekDayRange, fixed_days, holiday, Rule}
use Rattle.definition.specs.Range.{Ends, ranges}
use Rattle.definition.specs.Stop.{every_nth}

-- ## Dimensions
-- a dimension: its bounds; the first and last value of each of a rule's items in it; the rule with items of other such values instead
pub record Dimension : Type 0 where
  pub bounds : Range
  pub items : Rule → List Ends
  pub over : List Ends → Rule → Rule

-- an item that stops its rule gives none: only drained rules are asked, and they have no such item
abbrev pub month_ends : MonthdayRange → List Ends
month_ends (months a b) = (a, b) ∷ []
month_ends (months_of a b y) = []
month_ends (dated r) = []

abbrev pub weekday_ends : WeekDayRange → List Ends
weekday_ends (fixed_days a b offset from_start from_end) = (a, b) ∷ []
weekday_ends (holiday k offset) = []

abbrev pub weekday_dimension : Dimension
weekday_dimension = record {
  bounds = weekday_bounds;
  items = λ r. flat_map weekday_ends r.weekdays;
  over = λ es r. record {
    operator = r.operator;
    state = r.state;
    years = r.years;
    monthdays = r.monthdays;
    weeks = r.weeks;
    weekdays = map (λ e. fixed_days e.0 e.1 0 every_nth every_nth) es;
    spans = r.spans;
  };
}

abbrev pub week_dimension : Dimension
week_dimension = record {
  bounds = week_bounds;
  items = λ r. map (λ w. (w.start, w.end)) r.weeks;
  over = λ es r. record {
    operator = r.operator;
    state = r.state;
    years = r.years;
    monthdays = r.monthdays;
    weeks = map (λ e. record { start = e.0; end = e.1; step = 1 }) es;
    weekdays = r.weekdays;
    spans = r.spans;
  };
}

abbrev pub month_dimension : Dimension
month_dimension = record {
  bounds = month_bounds;
  items = λ r. flat_map month_ends r.monthdays;
  over = λ es r. record {
    operator = r.operator;
    state = r.state;
    years = r.years;
    monthdays = map (λ e. months e.0 e.1) es;
    weeks = r.weeks;
    weekdays = r.weekdays;
    spans = r.spans;
  };
}

abbrev pub year_dimension : Dimension
year_dimension = record {
  bounds = year_bounds;
  items = λ r. map (λ y. (y.start, y.end)) r.years;
  over = λ es r. record {
    operator = r.operator;
    state = r.state;
    years = map (λ e. record { start = e.0; end = e.1; step = 1 }) es;
    monthdays = r.monthdays;
    weeks = r.weeks;
    weekdays = r.weekdays;
    spans = r.spans;
  };
}

-- points go first by weekday, then by week, month and year
abbrev pub dimensions : List Dimension
dimensions = weekday_dimension ∷ week_dimension ∷ month_dimension ∷ year_dimension ∷ []

abbrev pub all_bounds : List Range
all_bounds = map (λ d. d.bounds) dimensions

-- all points, "whether or not a calendar day has it"
abbrev pub points : Set ℕ
points = map coordinates all_bounds

-- a rule's ranges, dimension by dimension
unfoldable pub selector : List Dimension → Rule → List (List Range)
selector [] r = []
selector (d ∷ ds) r = ranges d.bounds (d.items r) ∷ selector ds r

-- ## Lists
-- how many combinations there are of one covering range per dimension
unfoldable pub combinations : List (List Range) → List ℕ → ℕ
combinations [] p = 1
combinations (R ∷ Rs) [] = 0
combinations (R ∷ Rs) (x ∷ p) = count (holds x) R * combinations Rs p

abbrev pub is_normal : Operator → Bool
is_normal Normal = true
is_normal Additional = false
is_normal Fallback = false

abbrev pub is_closed : Kind → Bool
is_closed Open = false
is_closed Closed = true
is_closed Unknown = false

-- "A Normal rule that isn't Closed"; 01's wrong reading: "Normal Closed replacing the day. It appends."
abbrev pub replaces : Rule → Bool
replaces r = is_normal r.operator && not (is_closed r.state.kind)

-- the list l after a rule that covers the point n times; x stands in lists for the rule
unfoldable pub after : {A : Type 0} → Bool → A → ℕ → List A → List A
after replacing x n l = elim replacing [ true ↦ cond (eqb n 0) l (x ∷ []) | false ↦ l ++ replicate n x ]

-- l after some rules, one after the other
unfoldable pub list_from : List Rule → List Rule → List ℕ → List Rule
list_from l [] p = l
list_from l (r ∷ rs) p = list_from (after (replaces r) r (combinations (selector dimensions r) p) l) rs p

-- the list at a point
abbrev pub list_at : List Rule → List ℕ → List Rule
list_at rs p = list_from [] rs p
