-- `list_reclaim::mark` meets its contract: the numbers of the cells before the one at hand are marked.
use Rattle.list_reclaim.specs.Reclaim.{Marked}
use Rattle.list_reclaim.proofs.mark.Given as goal

abbrev pub invariant-loop-box_index : goal.invariant-loop-box_index
invariant-loop-box_index l = Marked l.cells l.initial.memo l.memo l.box_index
