-- `day_paint::rising::write_rising` meets its contract.
use Rattle.std.proofs.Common.{refl, arith}
use Rattle.day_paint.proofs.RisingReturns.{rising-start, rising-on, rising-ends}
use Rattle.day_paint.proofs.Tiled.{day-whole}
use Rattle.day_paint.proofs.rising.write_rising.Goals as goal

pub loop-x-init : goal.loop-x-init
loop-x-init c = rising-start _ _ _

pub loop-x-preserved : goal.loop-x-preserved
loop-x-preserved c =
    rising-on _ _ _ _ _ _ _ _ c.loop-x.invariant _ refl _ _ _ c.stroke_start-start.ensures c.stroke_end-end.ensures c.stroke_state.ensures (omega arith) (omega arith) (omega arith) _ _ _
    c.put_gap-next.ensures _ _ _ c.put_piece-place.ensures

pub returns : goal.returns
returns c =
    let ended = rising-ends _ _ _ _ _ _ _ _ c.loop-x.invariant _ (omega arith) c.requires.0 c.requires.1 _ _ _ c.put_gap-last.ensures in
    (day-whole c.args.strokes.now _ _ _ ended.0, ended.1)
