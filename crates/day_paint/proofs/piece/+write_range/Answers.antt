-- `day_paint::piece::write_range` meets its contract.
use Rattle.std.proofs.Common.{◌∙◌, sym, refl, arith}
use Rattle.day_paint.proofs.Meeting.{min-earlier}
use Rattle.day_paint.proofs.PieceReturns.{nothing_left, bare-room, bare-laid, last-in, range-left-room, range-left-on, range-own-room, range-shows-on, range-own-on}
use Rattle.day_paint.proofs.piece.+write_range.Goals as goal

pub put_piece-requires : goal.put_piece-requires
put_piece-requires t c =
    bare-room _ _ _ _ _ _ _ _ _ _ _ _ c.loop-from.invariant _ (sym c.in_default.ensures) refl c.loop-from-test.true

pub returns-in_default : goal.returns-in_default
returns-in_default t c =
    bare-laid _ _ _ _ _ _ _ _ _ _ _ _ c.loop-from.invariant _ (sym c.in_default.ensures) refl c.loop-from-test.true _ _ _ c.put_piece.ensures

pub offset_bounds-strokes-last : goal.offset_bounds-strokes-last
offset_bounds-strokes-last t c = omega (arith, last-in _ _ _ _ _ _ _ _ _ _ _ _ c.loop-from.invariant _ c.in-Some.ensures, c.requires)

pub bounds-strokes-last : goal.bounds-strokes-last
bounds-strokes-last t c = omega (arith, last-in _ _ _ _ _ _ _ _ _ _ _ _ c.loop-from.invariant _ c.in-Some.ensures, c.requires)

pub write_range-place-requires : goal.write_range-place-requires
write_range-place-requires t c =
    let few = last-in _ _ _ _ _ _ _ _ _ _ _ _ c.loop-from.invariant _ c.in-Some.ensures in
    let room = range-left-room _ _ _ _ _ _ _ _ _ _ _ _ c.loop-from.invariant _ c.in-Some.ensures _ c.stroke_start-start.ensures c.if-from-start.true in
    (omega (arith, few, c.decreases), (omega (arith, few, c.requires), room.0, room.1))

pub loop-from-preserved-then-from-start : goal.loop-from-preserved-then-from-start
loop-from-preserved-then-from-start t c =
    range-left-on _ _ _ _ _ _ _ _ _ _ _ _ c.loop-from.invariant _ c.in-Some.ensures _ c.stroke_start-start.ensures c.if-from-start.true _ _ _ c.write_range-place.ensures
    (c.write_range-place.auto.starts, c.write_range-place.auto.states)

pub put_piece-place-requires : goal.put_piece-place-requires
put_piece-place-requires t c =
    range-own-room _ _ _ _ _ _ _ _ _ _ _ _ c.loop-from.invariant _ c.in-Some.ensures _ c.stroke_start-start.ensures c.if-from-start.false

pub loop-from-smaller : goal.loop-from-smaller
loop-from-smaller t c =
    omega (
      arith,
      range-shows-on _ _ _ _ _ _ _ _ _ _ _ _ c.loop-from.invariant _ c.in-Some.ensures _ c.stroke_start-start.ensures c.if-from-start.false _ _ _ c.stroke_state.ensures c.stroke_end.ensures
          (c.min-from.ensures ∙ min-earlier _ _),
      c.loop-from-test.true,
    )

pub loop-from-preserved : goal.loop-from-preserved
loop-from-preserved t c =
    range-own-on _ _ _ _ _ _ _ _ _ _ _ _ c.loop-from.invariant _ c.in-Some.ensures _ c.stroke_start-start.ensures c.if-from-start.false _ _ _ c.stroke_state.ensures c.stroke_end.ensures
    (c.min-from.ensures ∙ min-earlier _ _) _ _ _ c.put_piece-place.ensures (c.put_piece-place.auto.starts, c.put_piece-place.auto.states)

pub returns : goal.returns
returns t c = nothing_left _ _ _ _ _ _ _ _ _ _ _ _ c.loop-from.invariant (omega arith)
