-- `sheet::check::check` meets its contract: the count of rules, then the rules.
use mathlib.Core.Path.{sym, ◌∙◌}
use native.Mathlib.Omega.{arith}
use Rattle.field.proofs.Bytes.{known_bytes}
use Rattle.forms.proofs.Numbers.{narrow}
use Rattle.sheet.specs.Rules.{as_checked}
use Rattle.sheet.proofs.Whole.{count-goes, count-stops, count-begun, none-begun, count_low}
use Rattle.sheet.proofs.Ends.{fails_on}
use Rattle.sheet.proofs.check.check.Goals as goal

pub returns-in_err-count : goal.returns-in_err-count
returns-in_err-count c =
    let count = sym c.in_err-count.ensures in
    (fails_on as_checked _ _ _ c.from_residual.ensures.1 (count-stops _ _ _ _ count), sym (none-begun _ _ _ _ count _))

pub check_rules-requires : goal.check_rules-requires
check_rules-requires c =
    let s = c.args.sheet.now in
    let bytes = known_bytes s (λ j. omega (arith, c.type_inv.sheet j)) in
    let low = count_low _ s bytes _ _ (sym c.in_ok-count.ensures) in
    (omega (arith, low.1, (narrow c.args.form).opening-narrow), low.2, low.0, c.requires)

pub returns : goal.returns
returns c =
    let s = c.args.sheet.now in
    let bytes = known_bytes s (λ j. omega (arith, c.type_inv.sheet j)) in
    let count = sym c.in_ok-count.ensures in
    (c.check_rules.ensures.0 ∙ sym (count-goes _ s bytes _ _ count), c.check_rules.ensures.1 ∙ sym (count-begun _ s _ _ count _))
