-- `paving::row::next_box` meets its contract. The loop's invariant: no box passed is of the class.
use Rattle.paving.specs.Grid.{in_class, NoneFrom}
use Rattle.paving.proofs.row.next_box.Given as goal

abbrev pub invariant-loop-at : goal.invariant-loop-at
invariant-loop-at l = NoneFrom l.cells (in_class l.classes l.class) l.first l.at
