-- `date_items::run_start` meets its contract. The loop's invariant: no column passed is marked.
use mathlib.Core.Path.{◌≡◌}
use Rattle.paving.specs.Grid.{marks_from}
use Rattle.date_items.proofs.run_start.Given as goal

abbrev pub invariant-loop-start : goal.invariant-loop-start
invariant-loop-start l = marks_from l.marks l.base l.width l.column ≡ marks_from l.marks l.base l.width l.start
