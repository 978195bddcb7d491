-- `plain_lists::list_rules` meets its contract. The loop's invariant: whatever rules the tables hold, the lists are those of the rules passed, none of which
-- is refused.
use Rattle.plain_lists.specs.Draw.{HaveLists}
use Rattle.plain_lists.proofs.Going.{Going}
use Rattle.plain_lists.proofs.list_rules.Given as goal

abbrev pub invariant-loop-rule : goal.invariant-loop-rule
invariant-loop-rule l =
    HaveLists l.lists l.boxes
    × Going l.days.replacing.now l.days.range_counts.now l.days.ranges.now l.cuts.row_starts.now l.cuts.sizes.now l.cuts.cuts.now l.days.rules l.lists l.rule
