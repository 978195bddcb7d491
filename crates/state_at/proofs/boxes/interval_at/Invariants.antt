-- `state_at::boxes::interval_at` meets its contract: the value stays between two cuts, which come together.
use Prim.Native.Nat.{◌-◌}
use Rattle.state_at.proofs.Search.{Enclosed}
use Rattle.state_at.proofs.boxes.interval_at.Given as goal

abbrev pub invariant-loop-upper : goal.invariant-loop-upper
invariant-loop-upper l = Enclosed l.cuts l.first l.size l.value l.lower l.upper

abbrev pub decreases-loop-upper : goal.decreases-loop-upper
decreases-loop-upper l = l.upper - l.lower
