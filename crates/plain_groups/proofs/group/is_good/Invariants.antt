-- `plain_groups::group::is_good` meets its contract. The loop's invariant: each marked box passed has the value.
use Prim.Native.Nat.{◌*◌}
use Rattle.plain_groups.proofs.Good.{MarkedAre}
use Rattle.plain_groups.proofs.group.is_good.Given as goal

abbrev pub invariant-loop-box_index : goal.invariant-loop-box_index
invariant-loop-box_index l = MarkedAre l.cells l.sizes l.marks l.value l.dims_left l.base (l.block * l.size) l.box_index
