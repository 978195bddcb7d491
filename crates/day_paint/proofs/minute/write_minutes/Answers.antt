-- `day_paint::minute::write_minutes` meets its contract.
use Rattle.std.proofs.Common.{refl, arith}
use Rattle.day_paint.proofs.Minutes.{reading-room, reading-on, reading-ends}
use Rattle.day_paint.proofs.minute.write_minutes.Goals as goal

pub put_piece-place-requires : goal.put_piece-place-requires
put_piece-place-requires c =
    let pre = c.requires.in_bounds in
    let room = reading-room _ _ _ _ _ _ _ _ c.loop-from.invariant c.loop-from-test.true in
    (omega (arith, room, pre.1), omega (arith, room, pre.2))

pub loop-from-preserved : goal.loop-from-preserved
loop-from-preserved c =
    reading-on _ _ _ _ _ _ _ _ c.loop-from.invariant c.loop-from-test.true _ refl _ c.number_state-state.ensures _ c.run_end-from.ensures _ _ _ _ refl
    c.put_piece-place.ensures

pub returns : goal.returns
returns c =
    let pre = c.requires.in_bounds in
    reading-ends _ _ _ _ _ _ _ _ c.loop-from.invariant c.loop-from-test.false pre.1 pre.2
