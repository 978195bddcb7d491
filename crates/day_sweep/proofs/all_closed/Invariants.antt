-- `day_sweep::all_closed` meets its contract.
use Rattle.std.proofs.Common.{◌≡◌, ◌-◌, length}
use Rattle.day_sweep.specs.Row.{all_closed}
use Rattle.day_sweep.proofs.all_closed.Given as goal

abbrev pub invariant-loop-state : goal.invariant-loop-state
invariant-loop-state l = all_closed l.interval_states l.state-index (length l.interval_states - l.state-index) ≡ all_closed l.interval_states 0 (length l.interval_states)
