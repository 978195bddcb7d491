-- `plain_boxes::width_of` meets its contract. The loop's invariant: how many intervals the dimensions passed have.
use mathlib.Core.Path.{◌≡◌}
use Rattle.paving.specs.Grid.{width_of}
use Rattle.plain_boxes.proofs.width_of.Given as goal

abbrev pub invariant-loop-size : goal.invariant-loop-size
invariant-loop-size l = l.width ≡ width_of l.sizes l.size-index
