-- `point_state::after_rule` meets its contract: one lemma for each of its returns.
use Rattle.std.proofs.Common.{◌∙◌}
use Rattle.point_state.proofs.State.{rule-alone, rule-ended, rule-unsettled}
use Rattle.point_state.proofs.after_rule.Goals as goal

pub returns-then-replaces : goal.returns-then-replaces
returns-then-replaces c =
    rule-alone _ _ _ _ _ _ _ c.if-replaces.true _ c.over_rule.ensures

pub returns-in_err-before : goal.returns-in_err-before
returns-in_err-before c =
    c.from_residual.ensures ∙ rule-unsettled _ _ _ _ _ _ _ c.if-replaces.false c.in_err-before.was

pub returns : goal.returns
returns c =
    rule-ended _ _ _ _ _ _ _ c.if-replaces.false _ c.in_ok-before.was _ c.over_rule-2.ensures
