-- `box_groups::all_are` meets its contract. The loop's invariant: those that are left have the value where all have it.
use mathlib.Core.Path.{◌≡◌}
use lib.ListN.{drop}
use Rattle.box_groups.specs.Boxes.{all_are, up}
use Rattle.box_groups.proofs.all_are.Given as goal

abbrev pub invariant-loop-number : goal.invariant-loop-number
invariant-loop-number l = all_are l.cells l.value (drop l.number-index (up l.shift l.boxes)) ≡ all_are l.cells l.value (up l.shift l.boxes)
