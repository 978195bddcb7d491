-- `item_writer::time::put_span` meets its contract: a simple span at once, any other as two times, a flag, repeats.
use mathlib.Core.Path.{refl}
use native.Mathlib.Omega.{arith}
use Rattle.item_writer.proofs.Chain.{wrote_then, room-first, room-rest, room_as, wrote_as}
use Rattle.item_writer.proofs.Items.{span-bits, span-parts}
use Rattle.item_writer.proofs.time.put_span.Goals as goal

pub put_simple_span-requires : goal.put_simple_span-requires
put_simple_span-requires c =
    record { number_value = cc; room_for = c.requires.room_for }

pub put_time-end_at-requires : goal.put_time-end_at-requires
put_time-end_at-requires c =
    let pre = c.requires in
    let number = c.args.number in
    let start = c.start_of in
    record { number_value = (span-parts number _ _ start.ensures refl pre.number_value).0; room_for = room-first _ _ (room_as (span-bits number _ _ start.ensures refl) pre.room_for) }

pub put_time-open_end_at-requires : goal.put_time-open_end_at-requires
put_time-open_end_at-requires c =
    let pre = c.requires in
    let number = c.args.number in
    let starts = c.start_of.ensures in
    let ends = c.end_of.ensures in record { number_value = (span-parts number _ _ starts ends pre.number_value).1; room_for = room-first _ _ (room-rest c.put_time-end_at.ensures _ (room_as (span-bits number _ _ starts ends) pre.room_for)) }

pub put-repeats_at-requires : goal.put-repeats_at-requires
put-repeats_at-requires c =
    let whole = room_as (span-bits c.args.number _ _ c.start_of.ensures c.end_of.ensures) c.requires.room_for in
    record { fits = (omega arith, omega arith); room_for = room-first _ _ (room-rest c.put_time-open_end_at.ensures _ (room-rest c.put_time-end_at.ensures _ whole)) }

pub put_repeats-requires : goal.put_repeats-requires
put_repeats-requires c =
    let pre = c.requires in
    let number = c.args.number in
    let starts = c.start_of.ensures in
    let ends = c.end_of.ensures in
    let whole = room_as (span-bits number _ _ starts ends) pre.room_for in record { number_value = (span-parts number _ _ starts ends pre.number_value).2; room_for = room-rest c.put-repeats_at.ensures _ (room-rest c.put_time-open_end_at.ensures _ (room-rest c.put_time-end_at.ensures _ whole)) }

pub returns : goal.returns
returns c =
    wrote_as (span-bits c.args.number _ _ c.start_of.ensures c.end_of.ensures)
    (wrote_then c.put_time-end_at.ensures
    (wrote_then c.put_time-open_end_at.ensures (wrote_then c.put-repeats_at.ensures c.put_repeats.ensures)))
