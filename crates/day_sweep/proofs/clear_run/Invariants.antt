-- `day_sweep::clear_run` meets its contract.
use Rattle.std.proofs.Common.{length}
use Rattle.day_sweep.proofs.TakeReturns.{Emptying}
use Rattle.day_sweep.proofs.clear_run.Given as goal

abbrev pub invariant-loop-next : goal.invariant-loop-next
invariant-loop-next l = Emptying l.initial.interval_states l.s l.i (length l.initial.interval_states) l.interval_states l.next
