-- `paving::place::size_of` meets its contract. The loop's invariant: the size of a node with the dimensions passed.
use mathlib.Core.Path.{◌≡◌}
use Rattle.paving.specs.Grid.{size_of}
use Rattle.paving.proofs.place.size_of.Given as goal

abbrev pub invariant-loop-width : goal.invariant-loop-width
invariant-loop-width l = l.size ≡ size_of l.sizes l.width-index
