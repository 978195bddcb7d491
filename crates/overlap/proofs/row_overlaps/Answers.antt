-- `overlap::row_overlaps` meets its contract.
use Rattle.std.proofs.Common.{sym, ◌∙◌}
use Rattle.overlap.proofs.Rows.{apart_next, ends_next, row-yes, row-no}
use Rattle.overlap.proofs.row_overlaps.Goals as goal

pub returns-then-overlaps_before : goal.returns-then-overlaps_before
returns-then-overlaps_before c =
    row-yes _ _ _ _ c.loop-range-test.true (sym c.overlaps_before.ensures ∙ c.if-overlaps_before.true)

pub loop-range-preserved : goal.loop-range-preserved
loop-range-preserved c =
    let inv = c.loop-range.invariant in record {
      apart = apart_next _ _ _ inv.apart (sym c.overlaps_before.ensures ∙ c.if-overlaps_before.false);
      ended = ends_next _ _ _ _ inv.ended _ c.max-end.ensures;
    }

pub returns : goal.returns
returns c =
    row-no _ _ _ _ c.loop-range-test.false c.loop-range.invariant.apart
