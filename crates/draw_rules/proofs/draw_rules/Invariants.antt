-- `draw_rules::draw_rules` meets its contract. The loop's invariant: whatever rules the tables hold, the store is that of the rules passed, none of which
-- is refused.
use Prim.Native.Nat.{ℕ, ◌≤◌}
use lib.ListN.{get_or}
use Rattle.draw_rules.proofs.Going.{Going}
use Rattle.draw_rules.proofs.draw_rules.Given as goal

abbrev pub invariant-loop-rule : goal.invariant-loop-rule
invariant-loop-rule l =
    (l.used ≤ l.most) × ((k : ℕ) → get_or l.memo k 0 ≤ l.used)
    × Going l.days.replacing.now l.days.range_counts.now l.days.ranges.now l.cuts.row_starts.now l.cuts.sizes.now l.cuts.cuts.now l.days.rules
    l.cells l.lists l.used l.rule
