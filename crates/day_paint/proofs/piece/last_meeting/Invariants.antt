-- `day_paint::piece::last_meeting` meets its contract.
use Rattle.std.proofs.Common.{◌≡◌}
use Rattle.day_paint.specs.Piece.{last_meeting}
use Rattle.day_paint.proofs.piece.last_meeting.Given as goal

abbrev pub invariant-loop-next : goal.invariant-loop-next
invariant-loop-next l = last_meeting l.strokes l.next l.a l.b ≡ last_meeting l.strokes l.i l.a l.b
