-- `canonical_date::canonical::weeks_at` meets its contract: ends within their bounds, split by their kind.
use mathlib.Core.Path.{refl, sym, ap, ◌∙◌}
use native.Mathlib.Omega.{arith}
use Rattle.definition.specs.Sheet.{weeks_of}
use Rattle.field.proofs.Bytes.{known_bytes}
use Rattle.item.specs.Answer.{as_steps}
use Rattle.canonical_date.specs.Says.{week_says, item_of}
use Rattle.canonical_date.proofs.Saying.{ok-got, ok-refused, said, said-stops, said-refused, split-some, only-some, only_none, weeks-low}
use Rattle.canonical_date.proofs.canonical.weeks_at.Goals as goal

pub returns-in_err-weeks : goal.returns-in_err-weeks
returns-in_err-weeks c =
    let read = ok-refused (as_steps weeks_of) c.weeks_read.result c.weeks_read.ensures c.in_err-weeks.ensures.value in
    ap item_of c.from_residual.ensures ∙ said-refused week_says _ read.0 read.1.0 read.1.1

pub returns-then-not-is_each : goal.returns-then-not-is_each
returns-then-not-is_each c =
    said-stops week_says _ _ _ (ok-got (as_steps weeks_of) c.weeks_read.result _ _ c.weeks_read.ensures c.in_ok-weeks.ensures.value)
    (only_none _ _ (sym c.is_each.ensures ∙ c.if-not-is_each.true))

pub overflow_cast-first : goal.overflow_cast-first
overflow_cast-first c =
    let read = ok-got (as_steps weeks_of) c.weeks_read.result _ _ c.weeks_read.ensures c.in_ok-weeks.ensures.value in
    let low = weeks-low c.args.sheet.now (known_bytes c.args.sheet.now (λ j. omega (arith, c.type_inv.sheet j))) _ _ _ read in
    omega (arith, low.0)

pub overflow_cast-last : goal.overflow_cast-last
overflow_cast-last c =
    let read = ok-got (as_steps weeks_of) c.weeks_read.result _ _ c.weeks_read.ensures c.in_ok-weeks.ensures.value in
    let low = weeks-low c.args.sheet.now (known_bytes c.args.sheet.now (λ j. omega (arith, c.type_inv.sheet j))) _ _ _ read in
    omega (arith, low.1)

pub returns : goal.returns
returns c =
    said week_says _ _ _ _ (ok-got (as_steps weeks_of) c.weeks_read.result _ _ c.weeks_read.ensures c.in_ok-weeks.ensures.value)
    (only-some _ _ _ (sym c.is_each.ensures ∙ c.if-not-is_each.false) (split-some _ _ _ _ _ _ c.split_inverted_range.ensures refl refl))
