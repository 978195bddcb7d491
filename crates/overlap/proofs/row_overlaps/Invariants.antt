-- `overlap::row_overlaps`: no two of the ranges passed meet, and none of them ends behind `end`.
use Rattle.overlap.specs.Overlap.{EndBy}
use Rattle.overlap.proofs.Rows.{Apart}
use Rattle.overlap.proofs.row_overlaps.Given as goal

abbrev pub invariant-loop-range : goal.invariant-loop-range
invariant-loop-range l = record { apart : Apart l.ranges l.dimension l.range; ended : EndBy l.ranges l.dimension l.range l.end }
