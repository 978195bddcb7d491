-- `field::wide_at` meets its contract: of the number of eight bytes the bits from the place on.
use mathlib.Core.Path.{◌≡◌, ap, ◌∙◌}
use Prim.Native.Nat.{◌+◌, ◌*◌, ◌-◌, ◌/◌}
use native.Mathlib.Omega.{arith}
use Rattle.definition.specs.Field.{sheet_bits, field_at}
use Rattle.field.proofs.Bytes.{known_bytes}
use Rattle.field.proofs.Wide.{eight-bytes}
use Rattle.field.proofs.wide_at.Goals as goal

pub returns : goal.returns
returns c =
    let args = c.args in
    let bytes = known_bytes args.sheet.now (λ j. omega (arith, c.type_inv.sheet j)) in
    let all : 8 * (args.at / 8 + 8 - args.at / 8) ≡ 64 = omega arith in
    eight-bytes args.sheet.now bytes args.at c.bytes_at.result c.requires.1
    (c.bytes_at.ensures ∙ ap (field_at (sheet_bits args.sheet.now) (8 * (args.at / 8))) all)
