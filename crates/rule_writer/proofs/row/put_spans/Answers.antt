-- `rule_writer::row::put_spans` meets its contract. The loop's invariant: the spans left, written behind what stands there, leave what all of them leave.
use native.Mathlib.Omega.{arith}
use Rattle.item_writer.proofs.Chain.{still-all, still-next, still-none, room-first, room_as}
use Rattle.tables.specs.Days.{FitsSpan}
use Rattle.rule_writer.proofs.Rows.{spans-none, spans-more, spans-lawful}
use Rattle.rule_writer.proofs.row.put_spans.Goals as goal

pub loop-span-init : goal.loop-span-init
loop-span-init c = record { lawful = c.requires.all; still = still-all c.requires.room_for }

pub put_span-next-requires : goal.put_span-next-requires
put_span-next-requires c =
    let loop = c.loop-span in
    let spans = c.args.spans.now in record {
      number_value = (spans-lawful spans loop.span-index (omega arith) FitsSpan loop.invariant.lawful).0;
      room_for = room-first _ _ (room_as (spans-more spans loop.span-index (omega arith)) loop.invariant.still.room);
    }

pub loop-span-preserved : goal.loop-span-preserved
loop-span-preserved c =
    let loop = c.loop-span in
    let spans = c.args.spans.now in record {
      lawful = (spans-lawful spans loop.span-index (omega arith) FitsSpan loop.invariant.lawful).1;
      still = still-next loop.invariant.still (spans-more spans loop.span-index (omega arith)) c.put_span-next.ensures;
    }

pub shape_of-out : goal.shape_of-out
shape_of-out c = c.loop-span.invariant.still.size

pub returns : goal.returns
returns c =
    let loop = c.loop-span in
    still-none loop.invariant.still (spans-none c.args.spans.now loop.span-index (omega arith))
