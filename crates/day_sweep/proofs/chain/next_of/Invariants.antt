-- `day_sweep::chain::next_of` meets its contract.
use Rattle.std.proofs.Common.{◌≡◌, ℕ, ◌-◌, ◌<◌, length, get_or}
use Rattle.day_sweep.specs.Chain.{OnChain}
use Rattle.day_sweep.proofs.chain.next_of.Given as goal

abbrev pub invariant-loop-next : goal.invariant-loop-next
invariant-loop-next l = (l.last < l.next) × OnChain l.chain l.interval_states (length l.interval_states) l.s l.next
    × ((k : ℕ) → l.last < k → k < length l.interval_states → k < l.next → get_or l.interval_states k 0 ≡ l.s → ⊥)

abbrev pub decreases-loop-next : goal.decreases-loop-next
decreases-loop-next l = length l.interval_states - l.next
