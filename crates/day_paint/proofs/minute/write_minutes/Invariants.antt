-- `day_paint::minute::write_minutes` meets its contract.
use Rattle.std.proofs.Common.{◌-◌}
use Rattle.day_paint.proofs.Minutes.{Reading}
use Rattle.day_paint.proofs.minute.write_minutes.Given as goal

abbrev pub invariant-loop-from : goal.invariant-loop-from
invariant-loop-from l = Reading l.strokes l.minutes l.initial.starts l.initial.states l.starts l.states l.place l.from

abbrev pub decreases-loop-from : goal.decreases-loop-from
decreases-loop-from l = 1440 - l.from
