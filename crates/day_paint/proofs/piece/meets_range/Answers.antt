-- `day_paint::piece::meets_range` meets its contract.
use Rattle.day_paint.proofs.Meeting.{meets-met}
use Rattle.day_paint.proofs.piece.meets_range.Goals as goal

pub returns : goal.returns
returns c = rw (c.max.ensures, c.min.ensures) (meets-met _ _ _ _ _ c.stroke_start.ensures c.stroke_end.ensures)
