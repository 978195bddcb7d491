-- `paving::row::next_cell` meets its contract.
use Rattle.paving.proofs.Rows.{none-begin, none_more}
use Rattle.paving.proofs.row.next_cell.Goals as goal

pub loop-at-init : goal.loop-at-init
loop-at-init c = none-begin _ _ _

pub loop-at-preserved : goal.loop-at-preserved
loop-at-preserved c = none_more _ _ _ _ _ c.loop-at.invariant c.in_class.ensures c.if-in_class.false
