-- `draw_rule::runs::find_row` meets its contract. The loop's invariant: the table has the runs of the dimensions before, and of the ranges passed.
use Rattle.draw_rule.specs.Runs.{RowRuns, RunsUpTo}
use Rattle.draw_rule.proofs.runs.find_row.Given as goal

abbrev pub invariant-loop-range : goal.invariant-loop-range
invariant-loop-range l = RunsUpTo l.sizes l.range_counts l.row_starts l.cuts l.ranges l.runs l.dimension × RowRuns l.sizes l.row_starts l.cuts l.ranges l.runs l.dimension l.range
