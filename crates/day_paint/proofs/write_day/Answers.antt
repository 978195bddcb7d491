-- `day_paint::write_day` meets its contract.
use Rattle.std.proofs.Common.{arith}
use Rattle.day_paint.proofs.Tiled.{day-pieces, day-whole}
use Rattle.day_paint.proofs.write_day.Goals as goal

pub returns : goal.returns
returns c =
    let laid = day-pieces _ _ _ _ _ _ _ c.write_pieces.ensures (omega arith) (omega arith) in
    (day-whole c.args.strokes.now _ _ _ laid.0, laid.1)
