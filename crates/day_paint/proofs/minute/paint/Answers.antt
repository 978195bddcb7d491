-- `day_paint::minute::paint` meets its contract.
use Rattle.std.proofs.Common.{◌∙◌, ap, refl, arith}
use Rattle.day_paint.specs.Piece.{earlier}
use Rattle.day_paint.proofs.Meeting.{min-earlier}
use Rattle.day_paint.proofs.Minutes.{painted-start, painted-on}
use Rattle.day_paint.proofs.minute.paint.Goals as goal

pub loop-i-init : goal.loop-i-init
loop-i-init c = painted-start _ _ c.requires.by_index

pub loop-i-preserved : goal.loop-i-preserved
loop-i-preserved c =
    painted-on _ _ _ _ _ refl _ _ _ c.stroke_start-start.ensures (c.min-end.ensures ∙ min-earlier _ 1440 ∙ ap (λ e. earlier e 1440) c.stroke_end.ensures) (omega arith)
    c.fill.ensures c.loop-i.invariant
