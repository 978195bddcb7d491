-- `plain_groups::group::empty_group` meets its contract. The loop's invariant: the marked boxes passed are empty, and all other boxes are as they were.
use Rattle.plain_groups.proofs.Emptying.{EmptiedBefore}
use Rattle.plain_groups.proofs.group.empty_group.Given as goal

abbrev pub invariant-loop-box_index : goal.invariant-loop-box_index
invariant-loop-box_index l = EmptiedBefore l.sizes l.marks 4 l.initial.cells l.cells l.box_index
