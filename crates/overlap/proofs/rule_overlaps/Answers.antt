-- `overlap::rule_overlaps` meets its contract.
use Rattle.std.proofs.Common.{sym, ◌∙◌, arith}
use Rattle.overlap.proofs.Rules.{row-asked, no_row}
use Rattle.overlap.proofs.rule_overlaps.Goals as goal

pub returns-then-row_overlaps : goal.returns-then-row_overlaps
returns-then-row_overlaps c =
    sym (c.loop-dimension.invariant
    ∙ row-asked _ _ _ _ (omega arith) _ c.from-count.ensures _ (sym c.if-row_overlaps.true ∙ c.row_overlaps.ensures))

pub loop-dimension-preserved : goal.loop-dimension-preserved
loop-dimension-preserved c =
    c.loop-dimension.invariant
    ∙ row-asked _ _ _ _ (omega arith) _ c.from-count.ensures _ (sym c.if-row_overlaps.false ∙ c.row_overlaps.ensures)

pub returns : goal.returns
returns c =
    sym (c.loop-dimension.invariant ∙ no_row _ _ _ c.loop-dimension-test.false)
