-- `item_writer::time::put_repeats` meets its contract, none and some.
use mathlib.Core.Path.{◌∙◌}
use Prim.Native.Nat.{◌-◌}
use native.Mathlib.Omega.{arith}
use Rattle.item_writer.proofs.Chain.{room_as, wrote_as}
use Rattle.item_writer.proofs.Items.{no-repeats, repeats-bits, repeats-low}
use Rattle.item_writer.proofs.Joined.{two_carried}
use Rattle.item_writer.proofs.time.put_repeats.Goals as goal

pub put-requires : goal.put-requires
put-requires c =
    record { fits = (omega arith, omega arith); room_for = room_as (no-repeats c.args.number c.if-number-eq0.true) c.requires.room_for }

pub returns-then-number-eq0 : goal.returns-then-number-eq0
returns-then-number-eq0 c =
    wrote_as (no-repeats c.args.number c.if-number-eq0.true) c.put.ensures

pub then-repeats-requires : goal.then-repeats-requires
then-repeats-requires c =
    (c.new.ensures.fits, (omega arith, repeats-low c.args.number c.if-number-eq0.false c.requires.number_value), omega (arith, c.new.ensures.spans))

pub put-requires-2 : goal.put-requires-2
put-requires-2 c =
    let number = c.args.number in record {
      fits = c.then-repeats.ensures.fits;
      room_for = room_as (repeats-bits number c.if-number-eq0.false ∙ two_carried 12 (number - 1) c.new.ensures c.then-repeats.ensures) c.requires.room_for;
    }

pub returns : goal.returns
returns c =
    wrote_as (repeats-bits c.args.number c.if-number-eq0.false ∙ two_carried 12 (c.args.number - 1) c.new.ensures c.then-repeats.ensures) c.put-2.ensures
