-- `sheet_writer::put_padding` meets its contract.
use mathlib.Core.Path.{ap, ◌∙◌}
use Prim.Native.Nat.{◌+◌, ◌*◌, ◌-◌, ◌/◌}
use native.Mathlib.Omega.{arith}
use lib.Pow.{pow_pos}
use lib.Seq.{sets}
use Rattle.definition.specs.Field.{sheet_bits}
use Rattle.definition.proofs.Bits.{length-bits}
use Rattle.sheet_writer.proofs.Frame.{padding-bits}
use Rattle.sheet_writer.proofs.put_padding.Goals as goal

pub overflow_add-bytes : goal.overflow_add-bytes
overflow_add-bytes c =
    omega arith

pub overflow_mul-width : goal.overflow_mul-width
overflow_mul-width c =
    omega arith

pub overflow_sub-width : goal.overflow_sub-width
overflow_sub-width c =
    omega arith

pub put-end-requires : goal.put-end-requires
put-end-requires c =
    let at = c.args.at in
    let long = length-bits ((at + 7) / 8 * 8 - at) 0 in
    let pre = c.requires in
    record { fits = (omega arith, pow_pos ((at + 7) / 8 * 8 - at)); room_for = record { inside = omega (arith, long, pre.0); low = omega (arith, long, pre.1) } }

pub returns : goal.returns
returns c =
    let at = c.args.at in
    let old = sheet_bits c.args.out.now in
    let put = c.put-end.ensures in
    (omega (arith, put.behind, length-bits ((at + 7) / 8 * 8 - at) 0), put.stored ∙ ap (sets old at) (padding-bits at))
