-- `list_reclaim::move_down` meets its contract: the marked lists before the place at hand are moved down.
use Rattle.list_reclaim.specs.Reclaim.{Moved}
use Rattle.list_reclaim.proofs.move_down.Given as goal

abbrev pub invariant-loop-place : goal.invariant-loop-place
invariant-loop-place l = Moved l.initial.lists l.initial.memo l.lists l.memo l.place l.next
