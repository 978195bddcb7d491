-- `overlap::rule_overlaps`: the dimensions passed say nothing, so those left say all.
use Rattle.std.proofs.Common.{◌≡◌}
use Rattle.overlap.proofs.Rules.{meet_in}
use Rattle.overlap.proofs.rule_overlaps.Given as goal

abbrev pub invariant-loop-dimension : goal.invariant-loop-dimension
invariant-loop-dimension l = meet_in l.range_counts l.ranges 4 ≡ meet_in l.range_counts l.ranges l.dimension
