-- A tale is what the line says of what stands at a bit: its text, whether some of it has no words, and the bit after it.
use Rattle.std.specs.Prelude.{List, [], Bool, true, false, not, ℕ}
use Rattle.definition.specs.Field.{Read, got, refused}
use Rattle.definition.specs.Sheet.{year_range, monthday_range, week_range, week_day_range, span}
use Rattle.definition.specs.Stop.{monthday_stops, weekday_stops}
use Rattle.definition.specs.Text.{Text}
use Rattle.definition.specs.Line.{year_text, month_text, week_text, weekday_text, is_plain, span_text}
use Rattle.item.specs.Sort.{of_sort}

pub record Tale : Type 0 where
  pub text : List ℕ
  pub wordless : Bool
  pub next : ℕ

abbrev pub tale : List ℕ → Bool → ℕ → Tale
tale text wordless next = record { text = text; wordless = wordless; next = next }

-- a value that was read at a bit; of one that was not there is nothing to tell
abbrev pub told : {A : Type 0} → Text A → (A → Bool) → ℕ → Read A → Tale
told T wordless p (got x q) = tale (T.write x) (wordless x) q
told T wordless p (refused c b) = tale [] true p

-- an item of each sort
abbrev pub year_told : List ℕ → ℕ → Tale
year_told s p = told year_text (λ y. false) p (year_range.read s p)

abbrev pub months_told : List ℕ → ℕ → Tale
months_told s p = told month_text monthday_stops p (monthday_range.read s p)

abbrev pub week_told : List ℕ → ℕ → Tale
week_told s p = told week_text (λ w. false) p (week_range.read s p)

abbrev pub weekdays_told : List ℕ → ℕ → Tale
weekdays_told s p = told weekday_text weekday_stops p (week_day_range.read s p)

abbrev pub span_told : List ℕ → ℕ → Tale
span_told s p = told span_text (λ x. not (is_plain x)) p (span.read s p)

-- by the sort's number
abbrev pub item_told : ℕ → List ℕ → ℕ → Tale
item_told = of_sort (told year_text (λ y. false)) (told month_text monthday_stops) (told week_text (λ w. false)) (told weekday_text weekday_stops)
    (told span_text (λ x. not (is_plain x)))
