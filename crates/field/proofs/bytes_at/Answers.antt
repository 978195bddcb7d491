-- `field::bytes_at` meets its contract.
use mathlib.Core.Path.{sym}
use Prim.Native.Nat.{◌*◌, ◌+◌}
use native.Mathlib.Omega.{arith}
use Rattle.field.proofs.FieldAt.{field-none}
use Rattle.field.proofs.Bytes.{known_bytes, bytes_below, bytes-next, part-place, part-byte}
use Rattle.field.proofs.bytes_at.Goals as goal

pub loop-byte-init : goal.loop-byte-init
loop-byte-init c = sym (field-none _ (8 * c.args.first))

pub overflow_mul-number : goal.overflow_mul-number
overflow_mul-number c =
    let args = c.args in
    let index = c.loop-byte.byte-index in
    let bytes = known_bytes args.sheet.now (λ j. omega (arith, c.type_inv.sheet j)) in
    let place = part-place args.sheet.now args.first args.past index c.loop-byte-test.true in
    omega (arith, bytes_below args.sheet.now bytes args.first index 7 (omega arith) (omega arith), c.loop-byte.invariant)

pub overflow_add-number : goal.overflow_add-number
overflow_add-number c =
    let args = c.args in
    let index = c.loop-byte.byte-index in
    let bytes = known_bytes args.sheet.now (λ j. omega (arith, c.type_inv.sheet j)) in
    let place = part-place args.sheet.now args.first args.past index c.loop-byte-test.true in
    omega (
      arith,
      bytes_below args.sheet.now bytes args.first index 7 (omega arith) (omega arith),
      part-byte args.sheet.now args.first args.past index c.loop-byte-test.true,
      c.type_inv.sheet (args.first + index),
      c.loop-byte.invariant,
    )

pub loop-byte-preserved : goal.loop-byte-preserved
loop-byte-preserved c =
    let args = c.args in
    let index = c.loop-byte.byte-index in
    let bytes = known_bytes args.sheet.now (λ j. omega (arith, c.type_inv.sheet j)) in
    let place = part-place args.sheet.now args.first args.past index c.loop-byte-test.true in
    omega (
      arith,
      bytes-next args.sheet.now bytes args.first index (omega arith),
      part-byte args.sheet.now args.first args.past index c.loop-byte-test.true,
      c.loop-byte.invariant,
    )
