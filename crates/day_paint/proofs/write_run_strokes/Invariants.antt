-- `day_paint::write_run_strokes` meets its contract: whatever lays the rest of the strokes lays the whole.
use Rattle.std.proofs.Common.{◌+◌, ◌-◌, ◌≤◌, length}
use Rattle.day_paint.specs.Stroke.{strokes_of_run}
use Rattle.day_paint.proofs.StrokeReturns.{Finishes}
use Rattle.day_paint.proofs.write_run_strokes.Given as goal

abbrev pub invariant-loop-next : goal.invariant-loop-next
invariant-loop-next l = record {
  room : l.place + (length l.states - l.next) ≤ length l.strokes;
  finishes : Finishes l.strokes l.place (strokes_of_run l.states l.spans l.s l.next (length l.states - l.next)) l.initial.strokes l.k
      (strokes_of_run l.states l.spans l.s l.i (length l.states - l.i));
}
