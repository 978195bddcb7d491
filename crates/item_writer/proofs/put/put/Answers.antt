-- `item_writer::put::put` meets its contract: a field, and its width.
use native.Mathlib.Omega.{arith}
use Rattle.definition.proofs.Bits.{length-bits}
use Rattle.item_writer.proofs.put.put.Goals as goal

pub put_field-requires : goal.put_field-requires
put_field-requires c =
    let args = c.args in
    let pre = c.requires in
    let long = length-bits args.width args.value in
    (pre.fits.0, omega (arith, pre.room_for.low), omega (arith, pre.room_for.inside, long), pre.fits.1)

pub overflow_add-result : goal.overflow_add-result
overflow_add-result c =
    let long = length-bits c.args.width c.args.value in
    omega (arith, c.requires.room_for.low, long)

pub returns : goal.returns
returns c =
    let args = c.args in
    let long = length-bits args.width args.value in
    record { behind = omega (arith, long); stored = c.put_field.ensures }
