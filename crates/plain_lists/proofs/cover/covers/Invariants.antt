-- `plain_lists::cover::covers` meets its contract. The loop's invariant: in each dimension passed the rule has a range that holds the box's value.
use Rattle.plain_lists.proofs.Covering.{Held}
use Rattle.plain_lists.proofs.cover.covers.Given as goal

abbrev pub invariant-loop-dimension : goal.invariant-loop-dimension
invariant-loop-dimension l = Held l.cuts.row_starts.now l.cuts.sizes.now l.cuts.cuts.now l.days.range_counts.now l.days.ranges.now l.rule l.box_index l.dimension
