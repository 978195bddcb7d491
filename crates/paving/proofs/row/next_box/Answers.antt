use Rattle.paving.proofs.Rows.{none-begin, none_more}
use Rattle.paving.proofs.row.next_box.Goals as goal

pub loop-at-init : goal.loop-at-init
loop-at-init c = none-begin _ _ _

pub loop-at-preserved : goal.loop-at-preserved
loop-at-preserved c = none_more _ _ _ _ _ c.loop-at.invariant c.is_of.ensures c.if-is_of.false
