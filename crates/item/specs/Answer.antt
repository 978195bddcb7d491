-- What the values of readers stand for: the definition's items, times and spans.
use Rattle.std.proofs.Math.Option.{Option, none, some}
use Rattle.std.specs.Prelude.{ℕ, Some, None}
use Rattle.std.specs.Prelude as prelude
use Rattle.definition.specs.Rule.{MonthdayRange, months, months_of, dated, WeekDayRange, fixed_days, holiday}
use Rattle.definition.specs.Rule as Rule
use Rattle.item.specs.declared.day.Steps.{Steps}
use Rattle.item.specs.declared.day.Monthday.{Monthday}
use Rattle.item.specs.declared.day.Monthday.TheVariants as monthday
use Rattle.item.specs.declared.day.WeekDay.{WeekDay}
use Rattle.item.specs.declared.day.WeekDay.TheVariants as week_day
use Rattle.item.specs.declared.time.Time.{Time}
use Rattle.item.specs.declared.time.Time.TheVariants as time
use Rattle.item.specs.declared.time.Span.{Span}

-- ## Items
abbrev pub as_parts : Steps → ℕ × (ℕ × ℕ)
as_parts s = (s.start, (s.end, s.step))

abbrev pub as_steps : {A : Type 0} → (ℕ × (ℕ × ℕ) → A) → Steps → A
as_steps make s = make (as_parts s)

abbrev pub as_monthday : Monthday → MonthdayRange
as_monthday (monthday.Months a b) = months a b
as_monthday (monthday.MonthsOf a b y) = months_of a b y
as_monthday (monthday.Dated r) = dated r

abbrev pub as_week_day : WeekDay → WeekDayRange
as_week_day (week_day.Fixed a b o s e) = fixed_days a b o s e
as_week_day (week_day.Holiday k o) = holiday k o

-- ## Times and spans
abbrev pub as_time : Time → Rule.Time
as_time (time.Fixed m) = Rule.fixed m
as_time (time.Variable e o) = Rule.variable e o

abbrev pub as_repeats : prelude.Option ℕ → Option ℕ
as_repeats (Some n) = some n
as_repeats None = none

abbrev pub as_span : Span → Rule.Span
as_span s = record { start = as_time s.start; end = as_time s.end; open_end = s.open_end; repeats = as_repeats s.repeats }
