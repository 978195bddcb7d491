-- `rule_writer::row::put_rows` meets its contract. The loop's invariant: the rows left, written behind what stands there, leave what all four leave.
use mathlib.Core.Path.{refl, sym, ap, ◌∙◌, subst}
use Prim.Native.Nat.{◌+◌, ◌*◌, ◌≤◌, ◌<◌}
use native.Mathlib.Omega.{arith}
use borrow.Author.Rules.{rules}
use lib.ListN.{length}
use Rattle.laws.specs.Lists.{All}
use Rattle.item_writer.proofs.Chain.{still-all, still-next, still-none, room-first, room_as, wrote_as}
use Rattle.tables.specs.Items.{upper_of, Below, row_place}
use Rattle.rule_writer.specs.Rows.{row_bits}
use Rattle.rule_writer.proofs.Rows.{row_at, rows_none, rows_more, place-next, row_inside, pairs-within}
use Rattle.rule_writer.proofs.row.put_rows.Goals as goal

pub loop-sort-init : goal.loop-sort-init
unfolding row_place
loop-sort-init c = record { placed = refl; still = still-all c.requires.room_for }

pub overflow_add-behind : goal.overflow_add-behind
overflow_add-behind c =
    let loop = c.loop-sort in
    omega (arith, row_inside c.args.ends.now c.args.item_counts.now loop.sort (omega arith) c.requires.rows.inside, c.from.ensures, loop.invariant.placed)

pub slice_bounds-put_row-end : goal.slice_bounds-put_row-end
slice_bounds-put_row-end c =
    let loop = c.loop-sort in
    omega (arith, row_inside c.args.ends.now c.args.item_counts.now loop.sort (omega arith) c.requires.rows.inside, c.from.ensures, loop.invariant.placed)

pub offset_bounds-ends-place : goal.offset_bounds-ends-place
offset_bounds-ends-place c =
    let loop = c.loop-sort in
    let inside : loop.place ≤ length c.args.ends.now =
    omega (arith, row_inside c.args.ends.now c.args.item_counts.now loop.sort (omega arith) c.requires.rows.inside, c.from.ensures, loop.invariant.placed) in
    search rules

pub put_row-next-requires : goal.put_row-next-requires
put_row-next-requires c =
    let loop = c.loop-sort in
    let ends = c.args.ends.now in
    let rows = c.requires.rows in
    let low : loop.sort < 4 = omega arith in
    let inside : loop.place + 2 * c.from.result ≤ length ends =
    omega (arith, row_inside ends c.args.item_counts.now loop.sort low rows.inside, c.from.ensures, loop.invariant.placed) in
    let same = pairs-within ends loop.place c.from.result _ inside (omega arith) in record {
      all = subst (All (Below (upper_of loop.sort))) (row_at _ _ _ _ _ c.from.ensures loop.invariant.placed ∙ sym same) (rows.lawful loop.sort low);
      room_for = room_as (ap (row_bits loop.sort) (sym same))
          (room-first _ _ (room_as (rows_more _ _ _ _ _ low c.from.ensures loop.invariant.placed) loop.invariant.still.room));
    }

pub loop-sort-preserved : goal.loop-sort-preserved
loop-sort-preserved c =
    let loop = c.loop-sort in
    let ends = c.args.ends.now in
    let counts = c.args.item_counts.now in
    let low : loop.sort < 4 = omega arith in
    let inside : loop.place + 2 * c.from.result ≤ length ends =
    omega (arith, row_inside ends counts loop.sort low c.requires.rows.inside, c.from.ensures, loop.invariant.placed) in
    let same = pairs-within ends loop.place c.from.result _ inside (omega arith) in record {
      placed = omega (arith, loop.invariant.placed, c.from.ensures, place-next counts loop.sort);
      still = still-next loop.invariant.still (rows_more ends counts loop.sort _ _ low c.from.ensures loop.invariant.placed)
          (wrote_as (ap (row_bits loop.sort) (sym same)) c.put_row-next.ensures);
    }

pub shape_of-out : goal.shape_of-out
shape_of-out c = c.loop-sort.invariant.still.size

pub returns : goal.returns
returns c =
    let loop = c.loop-sort in
    still-none loop.invariant.still (rows_none c.args.ends.now c.args.item_counts.now loop.sort (omega arith))
