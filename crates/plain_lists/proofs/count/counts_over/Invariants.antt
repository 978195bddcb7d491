-- `plain_lists::count::counts_over` meets its contract. The loop's invariant: the kinds name the lists of the boxes passed, and are 512 at most.
use Prim.Native.Nat.{◌≤◌}
use Rattle.plain_lists.specs.Kinds.{Kinds}
use Rattle.plain_lists.proofs.count.counts_over.Given as goal

abbrev pub invariant-loop-box_index : goal.invariant-loop-box_index
invariant-loop-box_index l = (l.count ≤ 512) × Kinds l.lists l.kinds l.count l.box_index
