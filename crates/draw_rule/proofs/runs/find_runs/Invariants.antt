-- `draw_rule::runs::find_runs` meets its contract. The loop's invariant: the table has the runs of the dimensions before the one at hand.
use Rattle.draw_rule.specs.Runs.{RunsUpTo}
use Rattle.draw_rule.proofs.runs.find_runs.Given as goal

abbrev pub invariant-loop-dimension : goal.invariant-loop-dimension
invariant-loop-dimension l = RunsUpTo l.sizes l.range_counts l.row_starts l.cuts l.ranges l.runs l.dimension
