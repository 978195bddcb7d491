-- `day_sweep::sweep_class` meets its contract.
use Rattle.std.proofs.Common.{◌+◌, ◌*◌, ◌-◌, ◌≤◌, length}
use Rattle.day_sweep.specs.Row.{entry_limit}
use Rattle.day_sweep.specs.Chain.{Chained}
use Rattle.day_sweep.proofs.RowReturns.{Sweeping}
use Rattle.day_sweep.proofs.sweep_class.Given as goal

abbrev pub invariant-loop-i : goal.invariant-loop-i
invariant-loop-i l = record {
  small : l.place + (length l.initial.interval_states - l.i) * entry_limit ≤ l.at + length l.initial.interval_states * entry_limit;
  swept : Sweeping l.minute_cuts l.class (length l.initial.interval_states) l.initial.out l.at l.initial.interval_states l.out l.place l.interval_states l.i;
  chained : Chained l.chain l.interval_states (length l.initial.interval_states);
}
