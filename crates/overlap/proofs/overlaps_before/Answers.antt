-- `overlap::overlaps_before` meets its contract: a range that begins where all before it have ended meets none.
use Rattle.std.proofs.Common.{le-ltb}
use Rattle.overlap.proofs.Rows.{late-none}
use Rattle.overlap.proofs.overlaps_before.Goals as goal

pub returns-else-ranges-dimension : goal.returns-else-ranges-dimension
returns-else-ranges-dimension c = rw (le-ltb _ _ c.if-ranges-dimension.false) (late-none _ _ _ _ c.requires.1 c.if-ranges-dimension.false)
