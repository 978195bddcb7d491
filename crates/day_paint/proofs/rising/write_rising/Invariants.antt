-- `day_paint::rising::write_rising` meets its contract.
use Rattle.day_paint.proofs.RisingReturns.{Rising}
use Rattle.day_paint.proofs.rising.write_rising.Given as goal

abbrev pub invariant-loop-x : goal.invariant-loop-x
invariant-loop-x l = Rising l.strokes l.initial.starts l.initial.states l.starts l.states l.place l.from l.x-index
