-- `box_groups::grow` meets its contract. The loop's invariant: what is marked and listed when all columns before one have been looked at.
use Rattle.box_groups.proofs.Growing.{GrownTo}
use Rattle.box_groups.proofs.grow.Given as goal

abbrev pub invariant-loop-column : goal.invariant-loop-column
invariant-loop-column l = GrownTo l.cells l.initial.marks l.initial.boxes l.count l.value l.base l.width l.own l.step l.marks l.boxes l.listed l.shift l.column
