-- `item_writer::time::put_time` meets its contract, fixed and variable.
use mathlib.Core.Path.{◌∙◌}
use Prim.Native.Nat.{◌+◌, ◌-◌, ◌/◌, ◌%◌}
use native.Mathlib.Omega.{arith}
use Rattle.item_writer.proofs.Chain.{room_as, wrote_as}
use Rattle.item_writer.proofs.Items.{fixed-bits, fixed-low, variable-bits, variable-low}
use Rattle.item_writer.proofs.Joined.{two_carried, three_carried}
use Rattle.item_writer.proofs.time.put_time.Goals as goal

pub then-minutes-requires : goal.then-minutes-requires
then-minutes-requires c =
    (c.new.ensures.fits, (omega arith, fixed-low c.args.number c.if-number-lt262144.true c.requires.number_value), omega (arith, c.new.ensures.spans))

pub put-requires : goal.put-requires
put-requires c = record {
  fits = c.then-minutes.ensures.fits;
  room_for = room_as (fixed-bits c.args.number c.if-number-lt262144.true ∙ two_carried 12 c.args.number c.new.ensures c.then-minutes.ensures) c.requires.room_for;
}

pub returns-then-number-lt262144 : goal.returns-then-number-lt262144
returns-then-number-lt262144 c =
    wrote_as (fixed-bits c.args.number c.if-number-lt262144.true ∙ two_carried 12 c.args.number c.new.ensures c.then-minutes.ensures) c.put.ensures

pub then-requires : goal.then-requires
then-requires c =
    (c.new-2.ensures.fits, (omega arith, variable-low c.args.number c.if-number-lt262144.false c.requires.number_value), omega (arith, c.new-2.ensures.spans))

pub put-requires-2 : goal.put-requires-2
put-requires-2 c =
    let n = c.args.number in record {
      fits = c.then-event.ensures.fits;
      room_for = room_as
          (variable-bits n c.if-number-lt262144.false
          ∙ three_carried 2 ((n - 262144) / 65536) c.new-2.ensures c.then.ensures 16 ((n % 65536 + 32768) % 65536) c.then-event.ensures) c.requires.room_for;
    }

pub returns : goal.returns
returns c =
    let n = c.args.number in
    wrote_as
    (variable-bits n c.if-number-lt262144.false
    ∙ three_carried 2 ((n - 262144) / 65536) c.new-2.ensures c.then.ensures 16 ((n % 65536 + 32768) % 65536) c.then-event.ensures) c.put-2.ensures
