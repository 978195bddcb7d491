-- `day_paint::stroke` meets its contract.
use Rattle.day_paint.proofs.StrokeReturns.{stroke-made}
use Rattle.day_paint.proofs.stroke.Goals as goal

pub returns : goal.returns
returns c =
    stroke-made _ _ _ _ _ c.from.ensures c.start_of.ensures c.end_of.ensures
