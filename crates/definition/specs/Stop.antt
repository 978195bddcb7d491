-- 01, "From rules to points", Stoppers: "Fallback; a step other than 1; a monthday of tag 1 or 2; a holiday; a weekday offset other than
-- 0 or any nth bit 0; a span that may reach tomorrow. A span passes if both times are fixed, start < end and end ≤ 24:00, or if
-- start is variable and end is fixed at 24:00 exactly." Draining: "Rules before the first stopper, in order."
-- 02, M-105, Why the fold stopped: "The tests for a stopper say only yes or no. They shall say why: 1 Fallback, 2 time, 3 year step, 4 monthday,
-- 5 week step, 6 holiday, 7 weekday offset, 8 nth; 0 if nothing stopped. The number given is the first that applies in the order 1 to 8."
use Rattle.std.specs.Prelude.{List, [], ◌∷◌, Bool, true, false, ◌&&◌, ◌||◌, not, cond, ℕ, eqb, leb, ltb}
use Rattle.laws.specs.Lists.{any_of}
use Rattle.definition.specs.Rule.{midnight24, Operator, Normal, Additional, Fallback, Time, fixed, variable, Span, YearRange, MonthdayRange, months, months_of, dated, WeekRange, WeekDayRange, fixed_days, holiday, Rule}

-- ## What stops, in each part of a rule
abbrev pub is_fallback : Operator → Bool
is_fallback Normal = false
is_fallback Additional = false
is_fallback Fallback = true

-- "both times are fixed, start < end and end ≤ 24:00, or .. start is variable and end is fixed at 24:00 exactly"
abbrev pub stays_today : Time → Time → Bool
stays_today (fixed a) (fixed b) = ltb a b && leb b midnight24
stays_today (variable e o) (fixed b) = eqb b midnight24
stays_today (fixed a) (variable f p) = false
stays_today (variable e o) (variable f p) = false

abbrev pub span_stops : Span → Bool
span_stops s = not (stays_today s.start s.end)

-- a step other than 1
abbrev pub year_stops : YearRange → Bool
year_stops y = not (eqb y.step 1)

abbrev pub week_stops : WeekRange → Bool
week_stops w = not (eqb w.step 1)

-- a monthday of tag 1 or 2
abbrev pub monthday_stops : MonthdayRange → Bool
monthday_stops (months a b) = false
monthday_stops (months_of a b y) = true
monthday_stops (dated r) = true

-- a holiday
abbrev pub is_holiday : WeekDayRange → Bool
is_holiday (fixed_days a b offset from_start from_end) = false
is_holiday (holiday k offset) = true

-- a weekday offset other than 0; the offset of a holiday isn't one
abbrev pub is_moved : WeekDayRange → Bool
is_moved (fixed_days a b offset from_start from_end) = not (eqb offset 0)
is_moved (holiday k offset) = false

-- five nth bits, all 1
abbrev pub every_nth : ℕ
every_nth = 31

-- any nth bit 0
abbrev pub lacks_nth : WeekDayRange → Bool
lacks_nth (fixed_days a b offset from_start from_end) = not (eqb from_start every_nth) || not (eqb from_end every_nth)
lacks_nth (holiday k offset) = false

-- "a holiday; a weekday offset other than 0 or any nth bit 0"
abbrev pub weekday_stops : WeekDayRange → Bool
weekday_stops d = is_holiday d || (is_moved d || lacks_nth d)

-- ## Stoppers
unfoldable pub stops : Rule → Bool
stops r =
    is_fallback r.operator || (any_of year_stops r.years || (any_of monthday_stops r.monthdays
    || (any_of week_stops r.weeks || (any_of weekday_stops r.weekdays || any_of span_stops r.spans))))

-- "1 Fallback, 2 time, 3 year step, 4 monthday, 5 week step, 6 holiday, 7 weekday offset, 8 nth": each with whether it applies to a rule
abbrev pub reasons : Rule → List (ℕ × Bool)
reasons r =
    (1, is_fallback r.operator) ∷ (2, any_of span_stops r.spans) ∷ (3, any_of year_stops r.years) ∷ (4, any_of monthday_stops r.monthdays)
    ∷ (5, any_of week_stops r.weeks) ∷ (6, any_of is_holiday r.weekdays) ∷ (7, any_of is_moved r.weekdays) ∷ (8, any_of lacks_nth r.weekdays) ∷ []

-- "The number given is the first that applies in the order 1 to 8"; 0 where none does
unfoldable pub first_that_applies : List (ℕ × Bool) → ℕ
first_that_applies [] = 0
first_that_applies (x ∷ xs) = cond x.1 x.0 (first_that_applies xs)

unfoldable pub reason : Rule → ℕ
reason r = first_that_applies (reasons r)

-- ## Draining
-- the rules before the first stopper, and the rules from it on
unfoldable pub drained : List Rule → List Rule
drained [] = []
drained (r ∷ rs) = elim (stops r) [ true ↦ [] | false ↦ r ∷ drained rs ]

unfoldable pub left : List Rule → List Rule
left [] = []
left (r ∷ rs) = elim (stops r) [ true ↦ r ∷ rs | false ↦ left rs ]

-- why the fold stopped: the reason of the first rule left; "0 if nothing stopped"
unfoldable pub why : List Rule → ℕ
why rs = elim (left rs) [ [] ↦ 0 | r ∷ others ↦ reason r ]
