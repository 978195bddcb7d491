-- `date_items::put_runs` meets its contract. The loop's invariant: what is written, with the runs from the next start on, is all.
use mathlib.Core.Path.{◌≡◌}
use Prim.Native.Nat.{◌+◌, ◌-◌, ◌≤◌, ◌<◌}
use lib.ListN.{get_or}
use Rattle.date_items.proofs.Returns.{Left}
use Rattle.date_items.proofs.put_runs.Given as goal

abbrev pub invariant-loop-start : goal.invariant-loop-start
invariant-loop-start l = (l.start ≤ l.width) × (l.start < l.width → get_or l.marks (l.base + l.start) 0 ≡ 1)
    × Left l.marks l.base l.width l.cuts l.row l.column l.at l.initial.ends l.count l.start l.ends

abbrev pub decreases-loop-start : goal.decreases-loop-start
decreases-loop-start l = l.width - l.start
