-- `plain_lists::count::same_list` meets its contract. The loop's invariant: the words passed are the same.
use Rattle.plain_lists.proofs.Same.{Alike}
use Rattle.plain_lists.proofs.count.same_list.Given as goal

abbrev pub invariant-loop-place : goal.invariant-loop-place
invariant-loop-place l = Alike l.lists l.first l.second l.place
