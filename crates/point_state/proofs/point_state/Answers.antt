-- `point_state::point_state` meets its contract.
use Rattle.std.proofs.Common.{arith}
use Rattle.state_at.specs.Boxes.{moment_point}
use Rattle.point_state.proofs.State.{each-there, state-start, state-next, state-end}
use Rattle.point_state.proofs.point_state.Goals as goal

pub loop-rule-init : goal.loop-rule-init
loop-rule-init c =
    λ rs given. state-start _ _ _ _ _ _ rs given _ _

pub at_rule-found-requires : goal.at_rule-found-requires
at_rule-found-requires c =
    let given = c.requires in each-there _ _ _ _ _ _ given.0 given.1 (moment_point c.args.moment) _ c.loop-rule-test.true

pub loop-rule-preserved : goal.loop-rule-preserved
loop-rule-preserved c =
    λ rs given. rw c.at_rule-found.ensures (state-next _ _ _ _ _ _ rs given _ _ _ c.loop-rule-test.true _ (c.loop-rule.invariant rs given))

pub returns : goal.returns
returns c =
    λ rs given. state-end _ _ _ _ _ _ rs given _ _ _ c.loop-rule-test.false (omega arith) _ (c.loop-rule.invariant rs given)
