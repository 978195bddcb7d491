-- `overlap::ranges_meet` meets its contract.
use Rattle.std.proofs.Common.{le-ltb}
use Rattle.overlap.proofs.Rows.{meet-yes, meet-no}
use Rattle.overlap.proofs.ranges_meet.Goals as goal

pub returns-then-ranges-at : goal.returns-then-ranges-at
returns-then-ranges-at c = meet-yes _ _ _ _ c.if-ranges-at.true

pub returns-else-ranges-at : goal.returns-else-ranges-at
returns-else-ranges-at c = rw (le-ltb _ _ c.if-ranges-at.false) (meet-no _ _ _ _ c.if-ranges-at.false)
