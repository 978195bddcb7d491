-- `point_state::few::count_kinds` meets its contract: the column's marks are put into the buffer, and it is of an earlier kind or of a new one.
use Rattle.std.proofs.Common.{arith}
use Rattle.point_state.proofs.Columns.{marked_more, kinds-none, kinds-like, kinds-new}
use Rattle.point_state.proofs.few.count_kinds.Goals as goal
use Rattle.point_state.proofs.few.count_kinds.Goals.{then-not-seen_before, else-not-seen_before}

pub loop-column-init : goal.loop-column-init
loop-column-init c = record { few = omega arith; marked = λ x l. absurd (omega arith); by_kinds = kinds-none _ _ _ _ _ _ }

pub loop-column-preserved : goal.loop-column-preserved
loop-column-preserved c =
    let a = c.args in
    let inv = c.loop-column.invariant in
    let put = marked_more a.range_counts.now a.ranges.now a.rules a.row_starts.now a.cuts.now a.dimension c.loop-column.marks c.loop-column.column _ _
    c.from-first.ensures c.marks_of.ensures (omega arith) inv.marked in
    record {
      few = elim c.if-not-seen_before.branch [ then-not-seen_before w ↦ omega (arith, inv.few, w.kinds-is) | else-not-seen_before w ↦ omega (arith, inv.few, w.kinds-is) ];
      marked = put;
      by_kinds = elim c.if-not-seen_before.branch [
        | then-not-seen_before w ↦ rw w.kinds-is (kinds-new _ _ _ _ _ _ _ _ inv.by_kinds)
        | else-not-seen_before w ↦ let like = c.seen_before.ensures w.if-not-seen_before.false in
            rw w.kinds-is (kinds-like _ _ _ _ _ _ _ _ inv.by_kinds _ put like.0 like.1 like.2)
      ];
    }
