-- `number_lists::short::all_short` meets its contract: the lists passed are short.
use Rattle.number_lists.specs.Short.{AllShort}
use Rattle.number_lists.proofs.short.all_short.Given as goal

abbrev pub invariant-loop-place : goal.invariant-loop-place
invariant-loop-place l = AllShort l.lists l.place
