-- `cutting::cut_rules` meets its contract.
use Rattle.cutting.proofs.Cutting.{rows-kept, next-space, next-cut, all-cut}
use Rattle.cutting.proofs.cut_rules.Goals as goal

pub cut_rule-requires : goal.cut_rule-requires
cut_rule-requires c =
    let days = c.requires.rule_days in
    let at = c.loop-rule in
    next-space _ _ _ _ days.1 _ _ _ (rows-kept _ _ _ _ _ _ at.auto.sizes at.auto.cuts c.requires.rows.0) _
    c.loop-rule-test.true (at.invariant days.0 days.1)

pub loop-rule-preserved : goal.loop-rule-preserved
loop-rule-preserved c =
    let at = c.loop-rule in
    λ rs days. next-cut _ _ _ _ days _ _ _ (rows-kept _ _ _ _ _ _ at.auto.sizes at.auto.cuts c.requires.rows.0) _ c.loop-rule-test.true (at.invariant rs days) _
    c.cut_rule.ensures

pub returns : goal.returns
returns c =
    λ rs days. all-cut _ _ _ _ days _ _ _ _ c.loop-rule-test.false (c.loop-rule.invariant rs days)
