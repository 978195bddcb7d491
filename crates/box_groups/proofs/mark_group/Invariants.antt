-- `box_groups::mark_group` meets its contract. The loop's invariant: the dimensions passed are grown.
use lib.ListN.{length}
use Rattle.box_groups.proofs.Groups.{GroupTo}
use Rattle.box_groups.proofs.mark_group.Given as goal

abbrev pub invariant-loop-dimension : goal.invariant-loop-dimension
invariant-loop-dimension l = GroupTo l.cells l.sizes l.initial.marks (length l.initial.boxes) l.first l.marks l.boxes l.count l.step l.block l.base l.dimension
