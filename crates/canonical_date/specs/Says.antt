-- What an item of days says: its ranges, or nothing where it stops its rule (01, "Stoppers"). And what the reader of an item answers.
use Rattle.std.specs.Prelude.{List, ◌&&◌, cond, ℕ, eqb, Some, None}
use Rattle.std.specs.Prelude as std
use Rattle.std.proofs.Math.Option.{Option, none, some}
use Rattle.laws.specs.Lists.{only_if}
use Rattle.grid.specs.Cut.{Range}
use Rattle.definition.specs.Field.{Read, got, refused}
use Rattle.definition.specs.Rule.{weekday_bounds, week_bounds, month_bounds, year_bounds, YearRange, MonthdayRange, months, months_of, dated, WeekRange, WeekDayRange, fixed_days, holiday}
use Rattle.definition.specs.Sheet.{year_range, monthday_range, week_range, week_day_range}
use Rattle.definition.specs.Range.{split}
use Rattle.definition.specs.Stop.{every_nth}
use Rattle.bounded.specs.Strict.{list_of}
use Rattle.bounded.specs.declared.Split.{Split}

-- ## Items
abbrev pub year_says : YearRange → Option (List Range)
year_says y = only_if (eqb y.step 1) (split year_bounds (y.start, y.end))

abbrev pub month_says : MonthdayRange → Option (List Range)
month_says (months a b) = some (split month_bounds (a, b))
month_says (months_of a b y) = none
month_says (dated r) = none

abbrev pub week_says : WeekRange → Option (List Range)
week_says w = only_if (eqb w.step 1) (split week_bounds (w.start, w.end))

abbrev pub weekday_says : WeekDayRange → Option (List Range)
weekday_says (fixed_days a b offset from_start from_end) = only_if (eqb offset 0 && (eqb from_start every_nth && eqb from_end every_nth)) (split weekday_bounds (a, b))
weekday_says (holiday k offset) = none

-- ## Items in a sheet
-- an item's ranges and the bit after it
abbrev pub Told : Type 0
Told = Option (List Range × ℕ)

abbrev pub ending_at : ℕ → Option (List Range) → Told
ending_at q none = none
ending_at q (some R) = some (R, q)

abbrev pub told : {A : Type 0} → (A → Option (List Range)) → Read A → Told
told says (got x q) = ending_at q (says x)
told says (refused c p) = none

-- an item of a sort: 0 years, 1 monthdays, 2 weeks, else weekdays; and the bounds of its dimension
unfoldable pub item_says : ℕ → List ℕ → ℕ → Told
item_says sort s p = cond (eqb sort 0) (told year_says (year_range.read s p)) (cond (eqb sort 1) (told month_says (monthday_range.read s p))
    (cond (eqb sort 2) (told week_says (week_range.read s p)) (told weekday_says (week_day_range.read s p))))

unfoldable pub bounds_of : ℕ → Range
bounds_of sort = cond (eqb sort 0) year_bounds (cond (eqb sort 1) month_bounds (cond (eqb sort 2) week_bounds weekday_bounds))

abbrev pub item_of : std.Option (Split × ℕ) → Told
item_of (Some (split, q)) = some (list_of split, q)
item_of None = none
