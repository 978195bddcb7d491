-- `item_writer::time::put_simple_span` meets its contract.
use mathlib.Core.Path.{◌∙◌}
use native.Mathlib.Omega.{arith}
use Rattle.codes.proofs.Laws.{simple-bounds}
use Rattle.item_writer.proofs.Chain.{room_as, wrote_as}
use Rattle.item_writer.proofs.Items.{simple-bits}
use Rattle.item_writer.proofs.Joined.{three_carried}
use Rattle.item_writer.proofs.time.put_simple_span.Goals as goal

pub new-requires : goal.new-requires
new-requires c = (omega arith, omega (arith, simple-bounds c.args.number c.requires.number_value, c.start_of.ensures))

pub then-requires : goal.then-requires
then-requires c =
    (c.new.ensures.fits, (omega arith, omega (arith, simple-bounds c.args.number c.requires.number_value, c.end_of.ensures)), omega (arith, c.new.ensures.spans))

pub put-requires : goal.put-requires
put-requires c = record {
  fits = c.then-span.ensures.fits;
  room_for = room_as
      (simple-bits c.args.number _ _ c.start_of.ensures c.end_of.ensures c.requires.number_value
      ∙ three_carried 13 c.end_of.result c.new.ensures c.then.ensures 2 0 c.then-span.ensures) c.requires.room_for;
}

pub returns : goal.returns
returns c =
    wrote_as
    (simple-bits c.args.number _ _ c.start_of.ensures c.end_of.ensures c.requires.number_value
    ∙ three_carried 13 c.end_of.result c.new.ensures c.then.ensures 2 0 c.then-span.ensures) c.put.ensures
