-- An item by its sort: 0 years, 1 monthdays, 2 weeks, 3 weekdays, else spans. What a stage makes of an item it says for each sort once, of the bit
-- where the item stands and of what is read there.
use Rattle.std.specs.Prelude.{List, cond, ℕ, eqb}
use Rattle.definition.specs.Field.{Read}
use Rattle.definition.specs.Rule.{YearRange, MonthdayRange, WeekRange, WeekDayRange, Span}
use Rattle.definition.specs.Sheet.{year_range, monthday_range, week_range, week_day_range, span}
use Rattle.item.specs.declared.sort.Sort.{Sort}
use Rattle.item.specs.declared.sort.Sort.TheVariants.{Years, Monthdays, Weeks, Weekdays, Spans}

abbrev pub number_of : Sort → ℕ
number_of Years = 0
number_of Monthdays = 1
number_of Weeks = 2
number_of Weekdays = 3
number_of Spans = 4

-- the number of the sort that a number names
abbrev pub named : ℕ → ℕ
named n = cond (eqb n 0) 0 (cond (eqb n 1) 1 (cond (eqb n 2) 2 (cond (eqb n 3) 3 4)))

module _ {B : Type 0} (years : ℕ → Read YearRange → B) (monthdays : ℕ → Read MonthdayRange → B) (weeks : ℕ → Read WeekRange → B)
    (weekdays : ℕ → Read WeekDayRange → B) (spans : ℕ → Read Span → B) where
  unfoldable pub of_sort : ℕ → List ℕ → ℕ → B
  of_sort sort s p = cond (eqb sort 0) (years p (year_range.read s p)) (cond (eqb sort 1) (monthdays p (monthday_range.read s p))
      (cond (eqb sort 2) (weeks p (week_range.read s p)) (cond (eqb sort 3) (weekdays p (week_day_range.read s p)) (spans p (span.read s p)))))
