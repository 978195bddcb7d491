-- `plain_lists::cover::in_ranges` meets its contract. The loop's invariant: the ranges passed do not hold the value.
use Rattle.plain_lists.proofs.Covering.{Passed}
use Rattle.plain_lists.proofs.cover.in_ranges.Given as goal

abbrev pub invariant-loop-range : goal.invariant-loop-range
invariant-loop-range l = Passed l.ranges l.first l.value l.range
