-- `day_paint::rising::put_gap` meets its contract.
use mathlib.Core.Path.{refl}
use native.Mathlib.Omega.{arith}
use Rattle.day_paint.proofs.rising.put_gap.Goals as goal

pub returns-then-a-b : goal.returns-then-a-b
returns-then-a-b c =
    let laid = c.put_piece.ensures in
    (λ h. laid, λ h. absurd (omega (arith, c.if-a-b.true)), omega (arith, laid.2))

pub returns : goal.returns
returns c = (λ h. absurd (omega arith), λ h. (refl, refl, refl), omega arith)
