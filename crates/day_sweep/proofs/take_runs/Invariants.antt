-- `day_sweep::take_runs` meets its contract.
use Rattle.std.proofs.Common.{◌-◌, length}
use Rattle.day_sweep.specs.Chain.{Chained}
use Rattle.day_sweep.proofs.TakeReturns.{Taking}
use Rattle.day_sweep.proofs.take_runs.Given as goal

abbrev pub invariant-loop-i : goal.invariant-loop-i
invariant-loop-i l = record {
  chained : Chained l.chain l.interval_states (length l.initial.interval_states);
  taking : Taking l.minute_cuts l.initial.interval_states l.s (length l.initial.interval_states) l.initial.out l.at l.j l.out l.place l.interval_states l.i;
}

abbrev pub decreases-loop-i : goal.decreases-loop-i
decreases-loop-i l = length l.initial.interval_states - l.i
