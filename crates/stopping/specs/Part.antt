-- Why an item stops its rule, by the numbers of 02's M-105, and the bit after the item.
use Rattle.std.specs.Prelude.{List, ◌||◌, not, cond, ℕ, eqb}
use Rattle.definition.specs.Field.{Read, got, refused}
use Rattle.definition.specs.Rule.{YearRange, MonthdayRange, WeekRange, WeekDayRange, Span}
use Rattle.definition.specs.Stop.{year_stops, week_stops, monthday_stops, is_holiday, is_moved, lacks_nth, every_nth, span_stops}
use Rattle.item.specs.Sort.{of_sort}
use Rattle.stopping.specs.declared.part.Reasoned.{Reasoned}

abbrev pub found : ℕ → ℕ → Reasoned
found reason at = record { reason = reason; at = at }

-- of what was read at a bit, f being why a value stops; nothing is known of a value that wasn't read
abbrev pub reasoned : {A : Type 0} → (A → ℕ) → ℕ → Read A → Reasoned
reasoned f p (got x q) = found (f x) q
reasoned f p (refused c b) = found 0 p

-- ## Each sort
-- start, end and step
abbrev pub step_reason : ℕ → ℕ × (ℕ × ℕ) → ℕ
step_reason number x = cond (not (eqb x.1.1 1)) number 0

abbrev pub year_reason : YearRange → ℕ
year_reason y = cond (year_stops y) 3 0

abbrev pub monthday_reason : MonthdayRange → ℕ
monthday_reason m = cond (monthday_stops m) 4 0

abbrev pub week_reason : WeekRange → ℕ
week_reason w = cond (week_stops w) 5 0

-- an offset and the two nth sets
abbrev pub days_reason : ℕ → ℕ → ℕ → ℕ
days_reason offset from_start from_end = cond (not (eqb offset 0)) 7 (cond (not (eqb from_start every_nth) || not (eqb from_end every_nth)) 8 0)

abbrev pub weekday_reason : WeekDayRange → ℕ
weekday_reason d = cond (is_holiday d) 6 (cond (is_moved d) 7 (cond (lacks_nth d) 8 0))

abbrev pub span_reason : Span → ℕ
span_reason x = cond (span_stops x) 2 0

-- an item of a sort
abbrev pub item_reasoned : ℕ → List ℕ → ℕ → Reasoned
item_reasoned = of_sort (reasoned year_reason) (reasoned monthday_reason) (reasoned week_reason) (reasoned weekday_reason) (reasoned span_reason)
