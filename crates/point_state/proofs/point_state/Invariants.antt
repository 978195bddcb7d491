-- `point_state::point_state`: the state is that by the point's list after the rules passed.
use Rattle.std.proofs.Common.{List}
use Rattle.definition.specs.Rule.{Rule}
use Rattle.state_at.specs.Boxes.{moment_point}
use Rattle.point_state.specs.Point.{PointRules}
use Rattle.point_state.proofs.State.{StateBy}
use Rattle.point_state.proofs.point_state.Given as goal

abbrev pub invariant-loop-rule : goal.invariant-loop-rule
invariant-loop-rule l =
    (rs : List Rule) (given : PointRules l.states l.span_counts l.spans l.replacing l.range_counts l.ranges rs)
    → StateBy l.states l.span_counts l.spans l.replacing l.range_counts l.ranges rs given (moment_point l.moment) l.moment.minute l.rule l.found
