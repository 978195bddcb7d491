-- `state_at::list::over_rule` meets its contract.
use Rattle.state_at.proofs.Walk.{rule-over}
use Rattle.state_at.proofs.list.over_rule.Goals as goal

pub returns : goal.returns
returns c =
    rule-over _ _ _ _ _ _ _ _ _ c.requires c.from-row.ensures c.from.ensures c.over_spans.ensures
