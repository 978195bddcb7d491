-- `paving_pages::put_sorts` meets its contract. The loop's invariant: the sorts before one are laid.
use Rattle.paving_pages.proofs.Writing.{LaidTo}
use Rattle.paving_pages.proofs.put_sorts.Given as goal

abbrev pub invariant-loop-sort : goal.invariant-loop-sort
invariant-loop-sort l = LaidTo l.row_starts l.cuts l.sizes l.marks l.dims_left l.counts_at l.start l.initial.pages l.pages l.base l.next l.sort
