-- `point_state::few::marks_of`: the marks are those of the rules passed.
use Rattle.std.proofs.Common.{◌≡◌}
use Rattle.point_state.specs.Few.{marks_of}
use Rattle.point_state.proofs.few.marks_of.Given as goal

abbrev pub invariant-loop-rule : goal.invariant-loop-rule
invariant-loop-rule l = l.marks ≡ marks_of l.range_counts l.ranges l.rule l.dimension l.value
