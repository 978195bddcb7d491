-- `day_paint::piece::write_pieces` meets its contract.
use Rattle.std.proofs.Common.{length, arith}
use Rattle.day_paint.proofs.Pieces.{pieces-few}
use Rattle.day_paint.proofs.PieceReturns.{day-laid}
use Rattle.day_paint.proofs.piece.write_pieces.Goals as goal

pub write_range-m-requires : goal.write_range-m-requires
write_range-m-requires c =
    let few = pieces-few c.args.strokes.now (length c.args.strokes.now) 0 1440 in
    (omega (arith, c.requires), omega (arith, few, c.requires), omega (arith, few, c.requires))

pub offset_bounds-starts-m : goal.offset_bounds-starts-m
offset_bounds-starts-m c =
    omega (arith, pieces-few c.args.strokes.now (length c.args.strokes.now) 0 1440, c.requires, c.write_range-m.ensures.2, c.write_range-m.auto.starts)

pub bounds-starts-m : goal.bounds-starts-m
bounds-starts-m c =
    omega (arith, pieces-few c.args.strokes.now (length c.args.strokes.now) 0 1440, c.requires, c.write_range-m.ensures.2, c.write_range-m.auto.starts)

pub returns : goal.returns
returns c = day-laid _ _ _ _ _ _ _ c.write_range-m.ensures
