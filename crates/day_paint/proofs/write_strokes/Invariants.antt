-- `day_paint::write_strokes` meets its contract: whatever lays the rest of the strokes lays the whole.
use Rattle.std.proofs.Common.{◌-◌, length}
use Rattle.day_paint.specs.Stroke.{strokes_from}
use Rattle.day_paint.proofs.StrokeReturns.{Finishes}
use Rattle.day_paint.proofs.write_strokes.Given as goal

abbrev pub invariant-loop-i : goal.invariant-loop-i
invariant-loop-i l = Finishes l.strokes l.i (strokes_from l.states l.spans l.i (length l.states - l.i)) l.initial.strokes 0 (strokes_from l.states l.spans 0 (length l.states))
