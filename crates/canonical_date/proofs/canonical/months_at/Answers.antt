-- `canonical_date::canonical::months_at` meets its contract: ends within their bounds, split by their kind.
use mathlib.Core.Path.{refl, ap, ◌∙◌}
use native.Mathlib.Omega.{arith}
use Rattle.definition.specs.Field.{got}
use Rattle.field.proofs.Bytes.{known_bytes}
use Rattle.item.specs.Answer.{as_monthday}
use Rattle.canonical_date.specs.Says.{month_says, item_of}
use Rattle.canonical_date.proofs.Saying.{ok-got, ok-refused, said, said-stops, said-refused, split-some, months-low, months-else}
use Rattle.canonical_date.proofs.canonical.months_at.Goals as goal

pub returns-in_err-monthday : goal.returns-in_err-monthday
returns-in_err-monthday c =
    let read = ok-refused as_monthday c.months_read.result c.months_read.ensures c.in_err-monthday.ensures.value in
    ap item_of c.from_residual.ensures ∙ said-refused month_says _ read.0 read.1.0 read.1.1

pub returns-in_default : goal.returns-in_default
returns-in_default c =
    let read = ok-got as_monthday c.months_read.result _ _ c.months_read.ensures c.in_ok-monthday.ensures.value in
    said-stops month_says _ _ _ read (months-else c.in_ok-monthday.monthday c.in_default.not-Months)

pub overflow_cast-start : goal.overflow_cast-start
overflow_cast-start c =
    let read = ok-got as_monthday c.months_read.result _ _ c.months_read.ensures c.in_ok-monthday.ensures.value in
    let low = months-low c.args.sheet.now (known_bytes c.args.sheet.now (λ j. omega (arith, c.type_inv.sheet j))) _ _ _ _ (read ∙ ap (λ x. got (as_monthday x) c.in_ok-monthday.next) c.in-Months.is) in
    omega (arith, low.0)

pub overflow_cast-end : goal.overflow_cast-end
overflow_cast-end c =
    let read = ok-got as_monthday c.months_read.result _ _ c.months_read.ensures c.in_ok-monthday.ensures.value in
    let low = months-low c.args.sheet.now (known_bytes c.args.sheet.now (λ j. omega (arith, c.type_inv.sheet j))) _ _ _ _ (read ∙ ap (λ x. got (as_monthday x) c.in_ok-monthday.next) c.in-Months.is) in
    omega (arith, low.1)

pub returns : goal.returns
returns c =
    let read = ok-got as_monthday c.months_read.result _ _ c.months_read.ensures c.in_ok-monthday.ensures.value in
    said month_says _ _ _ _ (read ∙ ap (λ x. got (as_monthday x) c.in_ok-monthday.next) c.in-Months.is)
    (split-some _ _ _ _ _ _ c.split_inverted_range-split.ensures refl refl)
