-- `field::take_at` meets its contract: the field, where it lies within the sheet.
use native.Mathlib.Omega.{arith}
use Rattle.field.proofs.Taking.{take-value, take_short}
use Rattle.field.proofs.take_at.Goals as goal

pub returns-then-at-width : goal.returns-then-at-width
returns-then-at-width c =
    take-value _ _ _ _ c.field_at.ensures (omega arith)

pub returns-else-at-width : goal.returns-else-at-width
returns-else-at-width c =
    take_short _ _ _ (omega arith)
