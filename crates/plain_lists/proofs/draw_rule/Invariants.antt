-- `plain_lists::draw_rule` meets its contract. The loop's invariant: the boxes passed are drawn.
use Rattle.plain_lists.specs.Covers.{covers_box}
use Rattle.plain_lists.proofs.Drawing.{Drawn}
use Rattle.plain_lists.proofs.draw_rule.Given as goal

abbrev pub invariant-loop-box_index : goal.invariant-loop-box_index
invariant-loop-box_index l =
    Drawn l.initial.lists l.boxes l.rule l.replaces (covers_box l.cuts.row_starts.now l.cuts.sizes.now l.cuts.cuts.now l.days.range_counts.now l.days.ranges.now l.rule) l.lists l.box_index
