-- `canonical_date::canonical::weekdays_at` meets its contract: ends within their bounds, split by their kind.
use mathlib.Core.Path.{refl, sym, ap, ◌∙◌}
use native.Mathlib.Omega.{arith}
use Rattle.definition.specs.Field.{got}
use Rattle.field.proofs.Bytes.{known_bytes}
use Rattle.item.specs.Answer.{as_week_day}
use Rattle.canonical_date.specs.Says.{weekday_says, item_of}
use Rattle.canonical_date.proofs.Saying.{ok-got, ok-refused, said, said-stops, said-refused, split-some, only-some, only_none, weekdays-low}
use Rattle.canonical_date.proofs.canonical.weekdays_at.Goals as goal

pub returns-in_err-weekday : goal.returns-in_err-weekday
returns-in_err-weekday c =
    let read = ok-refused as_week_day c.weekdays_read.result c.weekdays_read.ensures c.in_err-weekday.ensures.value in
    ap item_of c.from_residual.ensures ∙ said-refused weekday_says _ read.0 read.1.0 read.1.1

pub overflow_cast-first : goal.overflow_cast-first
overflow_cast-first c =
    let read = ok-got as_week_day c.weekdays_read.result _ _ c.weekdays_read.ensures c.in_ok-weekday.ensures.value in
    let low = weekdays-low c.args.sheet.now (known_bytes c.args.sheet.now (λ j. omega (arith, c.type_inv.sheet j))) _ _ _ _ _ _ _ (read ∙ ap (λ x. got (as_week_day x) c.in_ok-weekday.next) c.in-Fixed.is) in
    omega (arith, low.0)

pub overflow_cast-last : goal.overflow_cast-last
overflow_cast-last c =
    let read = ok-got as_week_day c.weekdays_read.result _ _ c.weekdays_read.ensures c.in_ok-weekday.ensures.value in
    let low = weekdays-low c.args.sheet.now (known_bytes c.args.sheet.now (λ j. omega (arith, c.type_inv.sheet j))) _ _ _ _ _ _ _ (read ∙ ap (λ x. got (as_week_day x) c.in_ok-weekday.next) c.in-Fixed.is) in
    omega (arith, low.1)

pub returns-in-Fixed : goal.returns-in-Fixed
returns-in-Fixed c =
    let read = ok-got as_week_day c.weekdays_read.result _ _ c.weekdays_read.ensures c.in_ok-weekday.ensures.value in
    said weekday_says _ _ _ _ (read ∙ ap (λ x. got (as_week_day x) c.in_ok-weekday.next) c.in-Fixed.is)
    (only-some _ _ _ (sym c.every_week.ensures ∙ c.if-every_week.true)
    (split-some _ _ _ _ _ _ c.split_inverted_range.ensures refl refl))

pub returns-in_default : goal.returns-in_default
returns-in_default c =
    let read = ok-got as_week_day c.weekdays_read.result _ _ c.weekdays_read.ensures c.in_ok-weekday.ensures.value in
    said-stops weekday_says _ _ _ (read ∙ ap (λ x. got (as_week_day x) c.in_ok-weekday.next) c.in-Fixed.is)
    (only_none _ _ (sym c.every_week.ensures ∙ c.if-every_week.false))

pub returns-in_default-2 : goal.returns-in_default-2
returns-in_default-2 c =
    let read = ok-got as_week_day c.weekdays_read.result _ _ c.weekdays_read.ensures c.in_ok-weekday.ensures.value in
    said-stops weekday_says _ _ _ (read ∙ ap (λ x. got (as_week_day x) c.in_ok-weekday.next) c.in_default.is) refl
