-- The items of a sheet as the texts of their sorts: ends that were read lie within their bounds, and each text is the definition's.
use mathlib.Core.Path.{◌≡◌, refl, sym, ap, ◌∙◌}
use mathlib.Core.List.{List, []}
use mathlib.Core.Option.{Option, none, some}
use mathlib.Core.Bool.{Bool, true, false, ◌&&◌, ◌||◌, not, false≢true}
use Prim.Native.Nat.{ℕ, ◌≤◌}
use lib.Dec.{eqb}
use Rattle.definition.specs.Field.{got, sheet_bits}
use Rattle.definition.specs.Rule.{Time, fixed, variable, Span, months, WeekDayRange, fixed_days}
use Rattle.definition.specs.Sheet.{years_of, weeks_of, year_range, monthday_range, week_range, week_day_range, span}
use Rattle.definition.specs.Stop.{every_nth, monthday_stops, weekday_stops}
use Rattle.definition.specs.Day.{minute_of, no_repeats}
use Rattle.definition.specs.Text.{padded, named, of, only}
use Rattle.definition.specs.Line.{year_text, month_text, week_text, weekday_text, is_fixed, is_plain, span_text}
use Rattle.definition.proofs.Bits.{Bytes}
use Rattle.definition.proofs.Items.{year-faithful, monthday-faithful, week-faithful, weekday-faithful, span-faithful}
use Rattle.definition.proofs.Lawful.{year-lawful, month-lawful, week-lawful, weekday-lawful}
use Rattle.definition.proofs.SheetRead.{carried}
use Rattle.lines.proofs.Carried.{span-carried}
use Rattle.std.specs.Prelude.{Some, None, is_none}
use Rattle.std.specs.Prelude as std
use Rattle.item.specs.Answer.{as_monthday, as_repeats}
use Rattle.item.specs.declared.day.Monthday.{Monthday}
use Rattle.item.specs.declared.day.Monthday.TheVariants.{Months, MonthsOf, Dated}
use Rattle.item_text.specs.Day.{end_text, item_text}
use Rattle.item_text.specs.declared.day.DaySort.{DaySort}
use Rattle.item_text.specs.declared.day.DaySort.TheVariants as day
use Rattle.item_text.specs.declared.day.DaySort.TheVariants.{Years, Weeks, Weekdays}
use Rattle.item_text.specs.Time.{plain_span}

-- both ends of an item have words
abbrev EndsFit : DaySort → ℕ → ℕ → Type 0
EndsFit sort first last = ((end_text sort).fits first ≡ true) × ((end_text sort).fits last ≡ true)

-- ## What was read
module _ (sheet : List ℕ) (bytes : Bytes sheet) (p : ℕ) where
  pub year-ends : (first last step q : ℕ) → year_range.read (sheet_bits sheet) p ≡ got (years_of (first, (last, step))) q → EndsFit Years first last
  unfolding padded
  year-ends first last step q e = year-lawful _ (carried year-faithful sheet bytes p _ q e)

  pub month-ends : (first last q : ℕ) → monthday_range.read (sheet_bits sheet) p ≡ got (months first last) q → EndsFit day.Months first last
  unfolding named
  month-ends first last q e = (month-lawful (months first last) (carried monthday-faithful sheet bytes p _ q e)).0

  pub week-ends : (first last step q : ℕ) → week_range.read (sheet_bits sheet) p ≡ got (weeks_of (first, (last, step))) q → EndsFit Weeks first last
  unfolding padded
  week-ends first last step q e = week-lawful _ (carried week-faithful sheet bytes p _ q e)

  pub weekday-ends : (first last o s t q : ℕ) → week_day_range.read (sheet_bits sheet) p ≡ got (fixed_days first last o s t) q → EndsFit Weekdays first last
  unfolding named
  weekday-ends first last o s t q e = (weekday-lawful (fixed_days first last o s t) (carried weekday-faithful sheet bytes p _ q e)).0

  pub span-times : (x : Span) (q : ℕ) → span.read (sheet_bits sheet) p ≡ got x q → is_plain x ≡ true → (minute_of x.start ≤ 2880) × (minute_of x.end ≤ 2880)
  span-times x q e = span-carried x (carried span-faithful sheet bytes p x q e)

-- ## Texts
pub year-item : (first last step : ℕ) → (item_text Years).write (first, (last, step)) ≡ year_text.write (years_of (first, (last, step)))
unfolding item_text year_text of
year-item first last step = refl

pub month-item : (first last : ℕ) → (item_text day.Months).write (first, (last, 1)) ≡ month_text.write (months first last)
unfolding item_text month_text only of
month-item first last = refl

-- months of another kind than those of any year have none
pub month-silent : (x : Monthday) → ((a b : ℕ) → x ≡ Months a b → ⊥) → (monthday_stops (as_monthday x) ≡ true) × (month_text.write (as_monthday x) ≡ [])
unfolding month_text only
month-silent (Months a b) h = absurd (h a b refl)
month-silent (MonthsOf a b y) h = (refl, refl)
month-silent (Dated r) h = (refl, refl)

pub week-item : (first last step : ℕ) → (item_text Weeks).write (first, (last, step)) ≡ week_text.write (weeks_of (first, (last, step)))
unfolding item_text week_text of
week-item first last step = refl

-- weekdays that stand as they are have words, and no others
module _ (first last o s t : ℕ) where
  stands : weekday_stops (fixed_days first last o s t) ≡ not (eqb o 0 && (eqb s every_nth && eqb t every_nth))
  stands = go (eqb o 0) (eqb s every_nth) (eqb t every_nth)
    where
      go : (a b c : Bool) → not a || (not b || not c) ≡ not (a && (b && c))
      go true true c = refl
      go true false c = refl
      go false b c = refl

  module _ (r : Bool) (h : r ≡ eqb o 0 && (eqb s every_nth && eqb t every_nth)) where
    pub weekdays-stand : r ≡ true → weekday_stops (fixed_days first last o s t) ≡ false
    weekdays-stand e = stands ∙ ap not (sym h ∙ e)

    pub weekdays-moved : r ≡ false → weekday_stops (fixed_days first last o s t) ≡ true
    weekdays-moved e = stands ∙ ap not (sym h ∙ e)

  pub weekday-item : weekday_stops (fixed_days first last o s t) ≡ false
      → (item_text Weekdays).write (first, (last, 1)) ≡ weekday_text.write (fixed_days first last o s t)
  unfolding item_text weekday_text only of
  weekday-item e = sym (rw e refl)

pub weekday-silent : (d : WeekDayRange) → weekday_stops d ≡ true → weekday_text.write d ≡ []
unfolding weekday_text only
weekday-silent d e = rw e

pub no-repeats : (r : std.Option ℕ) → no_repeats (as_repeats r) ≡ is_none r
no-repeats (Some n) = refl
no-repeats None = refl

-- a span between fixed times without repeats, and any other
pub span-item : (x : Span) → is_plain x ≡ true → plain_span (minute_of x.start) (minute_of x.end) x.open_end ≡ span_text.write x
span-item x = go x.start x.end x.repeats
  where
    go : (a b : Time) (n : Option ℕ) → is_fixed a && (is_fixed b && no_repeats n) ≡ true
        → plain_span (minute_of a) (minute_of b) x.open_end ≡ span_text.write (record { start = a; end = b; open_end = x.open_end; repeats = n })
    go (fixed a) (fixed b) none e = refl
    go (fixed a) (fixed b) (some n) e = absurd (false≢true e)
    go (fixed a) (variable f i) n e = absurd (false≢true e)
    go (variable f i) b n e = absurd (false≢true e)

pub span-silent : (x : Span) → is_plain x ≡ false → span_text.write x ≡ []
unfolding span_text only
span-silent x e = rw e
