-- `overlap::first_overlap` meets its contract.
use Rattle.std.proofs.Common.{◌∙◌}
use Rattle.overlap.proofs.Rules.{rule-asked, none-next, first_found, none_found}
use Rattle.overlap.proofs.first_overlap.Goals as goal

pub returns-then-rule_overlaps : goal.returns-then-rule_overlaps
returns-then-rule_overlaps c =
    λ rs days.
    first_found _ _ _ rs days _ c.loop-rule-test.true (c.loop-rule.invariant rs days)
    (rule-asked _ _ _ rs days _ c.loop-rule-test.true _ c.rule_overlaps.ensures ∙ c.if-rule_overlaps.true)

pub loop-rule-preserved : goal.loop-rule-preserved
loop-rule-preserved c =
    λ rs days.
    none-next _ _ _ rs days _ (c.loop-rule.invariant rs days)
    (rule-asked _ _ _ rs days _ c.loop-rule-test.true _ c.rule_overlaps.ensures ∙ c.if-rule_overlaps.false)

pub returns : goal.returns
returns c =
    λ rs days. none_found _ _ _ rs days _ c.loop-rule-test.false (c.loop-rule.invariant rs days)
