-- `day_paint::minute::fill` meets its contract.
use Rattle.std.proofs.Common.{◌∙◌, arith}
use Rattle.day_paint.proofs.Minutes.{fill_start, fill_on, fill_end}
use Rattle.day_paint.proofs.minute.fill.Goals as goal

pub loop-minute-init : goal.loop-minute-init
loop-minute-init c = record { few = omega arith; filled = fill_start _ _ _ }

pub loop-minute-preserved : goal.loop-minute-preserved
loop-minute-preserved c =
    record { few = omega arith; filled = fill_on _ _ _ _ c.loop-minute.minutes (omega arith) (omega arith) c.loop-minute.invariant.filled }

pub returns : goal.returns
returns c = λ m. c.loop-minute.invariant.filled m ∙ fill_end _ _ _ _ _ (omega arith) c.loop-minute.invariant.few c.loop-minute-test.false m
