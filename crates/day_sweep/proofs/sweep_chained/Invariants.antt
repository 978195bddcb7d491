-- `day_sweep::sweep_chained` meets its contract.
use Rattle.std.proofs.Common.{length}
use Rattle.day_sweep.specs.Chain.{Chained}
use Rattle.day_sweep.proofs.RowReturns.{ClassesOn}
use Rattle.day_sweep.proofs.sweep_chained.Given as goal

abbrev pub invariant-loop-class : goal.invariant-loop-class
invariant-loop-class l = record {
  on : ClassesOn l.minute_cuts l.initial.interval_states (length l.initial.interval_states) l.initial.out l.class l.place l.out l.interval_states;
  chained : Chained l.chain l.interval_states (length l.initial.interval_states);
}
