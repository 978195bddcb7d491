-- `day_paint::minute::paint` meets its contract.
use Rattle.day_paint.specs.Minute.{Painted}
use Rattle.day_paint.proofs.minute.paint.Given as goal

abbrev pub invariant-loop-i : goal.invariant-loop-i
invariant-loop-i l = Painted l.strokes l.i l.minutes
