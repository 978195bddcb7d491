-- `rule_writer::row::put_row` meets its contract. The loop's invariant: the pairs left, written behind what stands there, leave what the whole row leaves.
use mathlib.Core.Path.{ap, subst}
use native.Mathlib.Omega.{arith}
use Rattle.laws.specs.Lists.{All}
use Rattle.tables.specs.Items.{upper_of, Below}
use Rattle.item_writer.proofs.Chain.{still-all, still-as, still-next, still-none, room-first, room_as}
use Rattle.rule_writer.specs.Rows.{row_bits}
use Rattle.rule_writer.proofs.Rows.{pairs-all, pairs-none, pairs-more, pairs-lawful}
use Rattle.rule_writer.proofs.row.put_row.Goals as goal

pub loop-pair-init : goal.loop-pair-init
loop-pair-init c =
    let a = c.args in record {
      lawful = subst (All (Below (upper_of a.sort))) (pairs-all a.row.now) c.requires.all;
      still = still-as (still-all c.requires.room_for) (ap (row_bits a.sort) (pairs-all a.row.now));
    }

pub put_item-next-requires : goal.put_item-next-requires
put_item-next-requires c =
    let loop = c.loop-pair in
    let row = c.args.row.now in record {
      below = (pairs-lawful row loop.pair (omega arith) _ _ c.from-start.ensures c.from-end.ensures _ loop.invariant.lawful).0;
      room_for = room-first _ _ (room_as (pairs-more row loop.pair (omega arith) _ _ c.from-start.ensures c.from-end.ensures c.args.sort) loop.invariant.still.room);
    }

pub loop-pair-preserved : goal.loop-pair-preserved
loop-pair-preserved c =
    let loop = c.loop-pair in
    let row = c.args.row.now in record {
      lawful = (pairs-lawful row loop.pair (omega arith) _ _ c.from-start.ensures c.from-end.ensures _ loop.invariant.lawful).1;
      still = still-next loop.invariant.still (pairs-more row loop.pair (omega arith) _ _ c.from-start.ensures c.from-end.ensures c.args.sort) c.put_item-next.ensures;
    }

pub shape_of-out : goal.shape_of-out
shape_of-out c = c.loop-pair.invariant.still.size

pub returns : goal.returns
returns c =
    let loop = c.loop-pair in
    still-none loop.invariant.still (pairs-none c.args.row.now c.args.sort loop.pair (omega arith))
