-- `state_at::list::over_list` meets its contract.
use Rattle.std.proofs.Common.{◌∙◌}
use Rattle.state_at.proofs.Walk.{list_on, list-unsettled, list-end}
use Rattle.state_at.proofs.list.over_list.Goals as goal

pub returns-in_err-shown : goal.returns-in_err-shown
returns-in_err-shown c =
    c.from_residual.ensures ∙ list-unsettled _ _ _ _ _ _ _ c.loop-rule-test.true _ c.over_rule.ensures c.in_err-shown.was ∙ c.loop-rule.invariant

pub loop-rule-preserved : goal.loop-rule-preserved
loop-rule-preserved c =
    list_on _ _ _ _ _ _ _ c.loop-rule-test.true _ c.over_rule.ensures _ c.in_ok-shown.was ∙ c.loop-rule.invariant

pub returns : goal.returns
returns c =
    list-end _ _ _ _ _ _ _ c.loop-rule-test.false ∙ c.loop-rule.invariant
