-- `point_state::few::count_kinds`: the columns passed have their marks in the buffer, and are of so many kinds.
use Rattle.std.proofs.Common.{◌≤◌}
use Rattle.point_state.specs.Few.{Kinds}
use Rattle.point_state.proofs.Columns.{Marked}
use Rattle.point_state.proofs.few.count_kinds.Given as goal

abbrev pub invariant-loop-column : goal.invariant-loop-column
invariant-loop-column l = record {
  few : l.kinds ≤ l.column;
  marked : Marked l.range_counts l.ranges l.rules l.row_starts l.cuts l.dimension l.marks l.column;
  by_kinds : Kinds l.range_counts l.ranges l.rules l.row_starts l.cuts l.dimension l.column l.kinds;
}
