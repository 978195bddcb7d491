-- `day_paint::piece::write_range` meets its contract. Calls are for fewer strokes.
use Rattle.std.proofs.Common.{◌-◌}
use Rattle.day_paint.proofs.PieceReturns.{RangeOn}
use Rattle.day_paint.proofs.piece.+write_range.Given as goal

abbrev pub decreases-write_range : goal.decreases-write_range
decreases-write_range l = l.i

abbrev pub invariant-loop-from : goal.invariant-loop-from
invariant-loop-from l = RangeOn l.strokes l.i l.a l.b l.at l.initial.starts l.initial.states l.below l.from l.place l.starts l.states

abbrev pub decreases-loop-from : goal.decreases-loop-from
decreases-loop-from l = l.b - l.from
