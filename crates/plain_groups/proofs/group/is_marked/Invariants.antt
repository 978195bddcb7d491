-- `plain_groups::group::is_marked` meets its contract. The loop's invariant: the box lies in marked intervals of all dimensions exactly when it does in
-- those of the dimensions still to come, whose marks stand from `place` on.
use mathlib.Core.Path.{◌≡◌}
use Prim.Native.Nat.{◌+◌}
use Rattle.paving.specs.Grid.{width_of}
use Rattle.plain_groups.proofs.Marked.{box_marked}
use Rattle.plain_groups.proofs.group.is_marked.Given as goal

abbrev pub invariant-loop-dimension : goal.invariant-loop-dimension
invariant-loop-dimension l = (l.place + width_of l.sizes l.dimension ≡ l.base + width_of l.sizes l.dims_left)
    × (box_marked l.sizes l.marks l.box_index l.dimension l.place ≡ box_marked l.sizes l.marks l.box_index l.dims_left l.base)
