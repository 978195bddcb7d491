-- `sheet::rule::rule_end` meets its contract: its title, then what is counted.
use mathlib.Core.Path.{sym, ap, ◌∙◌}
use Prim.Native.Nat.{◌+◌}
use native.Mathlib.Omega.{arith}
use Rattle.definition.specs.Field.{got}
use Rattle.definition.proofs.Lengths.{title-end}
use Rattle.forms.proofs.Numbers.{narrow}
use Rattle.sheet.specs.End.{as_step}
use Rattle.sheet.proofs.RuleEnds.{rule-goes, rule-stops}
use Rattle.sheet.proofs.Ends.{fails_on}
use Rattle.sheet.proofs.rule.rule_end.Goals as goal

pub returns-then-lawful_title : goal.returns-then-lawful_title
returns-then-lawful_title c =
    let title = c.lawful_title.ensures c.if-lawful_title.true _ _ c.wide_at.ensures in
    let at = c.args.at in
    c.counted_end.ensures ∙ sym (rule-goes _ _ _ _ _ (title.1 ∙ ap (λ w. got title.0 (at + w)) (sym c.title_width.ensures.0)))

pub returns-in_err-after_title : goal.returns-in_err-after_title
returns-in_err-after_title c =
    fails_on as_step _ _ _ c.from_residual.ensures.1 (rule-stops _ _ _ _ _ (sym c.in_err-after_title.ensures))

pub counted_end-requires-2 : goal.counted_end-requires-2
counted_end-requires-2 c =
    let end = title-end _ _ _ _ _ (sym c.in_ok-after_title.ensures) in
    omega (arith, end, (narrow c.args.form).head-narrow)

pub returns : goal.returns
returns c = c.counted_end-2.ensures ∙ sym (rule-goes _ _ _ _ _ (sym c.in_ok-after_title.ensures))
