-- `date_items::run_end` meets its contract. The loop's invariant: the run from here on ends where the whole run does.
use mathlib.Core.Path.{◌≡◌}
use Prim.Native.Nat.{◌-◌}
use Rattle.date_items.specs.Runs.{mark_at, run_end}
use Rattle.date_items.proofs.run_end.Given as goal

abbrev pub invariant-loop-end : goal.invariant-loop-end
invariant-loop-end l =
    run_end (mark_at l.marks l.base) l.end (l.width - l.end) ≡ run_end (mark_at l.marks l.base) l.column (l.width - l.column)
