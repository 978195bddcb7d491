-- `plain_groups::group::mark_group` meets its contract. The loop's invariant: the dimensions passed are grown.
use Prim.Native.Nat.{◌/◌}
use Rattle.paving.specs.Grid.{size_of}
use Rattle.plain_boxes.specs.Groups.{base_of, MarkedGroup}
use Rattle.plain_groups.proofs.group.mark_group.Given as goal

abbrev pub invariant-loop-dimension : goal.invariant-loop-dimension
invariant-loop-dimension l =
    MarkedGroup l.cells l.sizes l.first l.dimension (l.first / size_of l.sizes l.dimension) (base_of l.sizes l.dimension) l.initial.marks l.marks
