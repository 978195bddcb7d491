-- `day_sweep::chain::link` meets its contract.
use Rattle.std.proofs.Common.{length}
use Rattle.day_sweep.proofs.Chains.{Linking}
use Rattle.day_sweep.proofs.chain.link.Given as goal

abbrev pub invariant-loop-i : goal.invariant-loop-i
invariant-loop-i l = Linking l.interval_states (length l.interval_states) l.heads l.chain l.i
