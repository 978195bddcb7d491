-- `overlap::first_overlap`: whatever rules the tables hold, none of those passed overlaps.
use Rattle.std.proofs.Common.{List}
use Rattle.definition.specs.Rule.{Rule}
use Rattle.tables.specs.Rules.{RuleDays}
use Rattle.overlap.proofs.Rules.{NoneBefore}
use Rattle.overlap.proofs.first_overlap.Given as goal

abbrev pub invariant-loop-rule : goal.invariant-loop-rule
invariant-loop-rule l = (rs : List Rule) (days : RuleDays l.range_counts l.ranges l.rules rs) → NoneBefore l.range_counts l.ranges l.rules rs days l.rule
