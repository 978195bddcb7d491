-- `tables::cells::rename`: the cells before the one at hand are named anew, the others are as they were.
use Rattle.tables.specs.Lists.{Renamed}
use Rattle.tables.proofs.cells.rename.Given as goal

abbrev pub invariant-loop-cell : goal.invariant-loop-cell
invariant-loop-cell l = Renamed l.initial.cells l.numbers l.cells l.cell-index
