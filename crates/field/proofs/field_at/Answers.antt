-- `field::field_at` meets its contract: the first of 56 bits; or the field, taken from the number of the bytes that it spans, five at most.
use mathlib.Core.Path.{◌≡◌, ap, ◌∙◌}
use Prim.Native.Nat.{◌+◌, ◌-◌, ◌/◌, ◌%◌, ◌^◌}
use native.Mathlib.Omega.{arith}
use Rattle.field.proofs.Bytes.{known_bytes, behind, spanned, spanned-field}
use Rattle.field.proofs.Wide.{wide-front}
use Rattle.field.proofs.field_at.Goals as goal

pub returns-then-at-sheet : goal.returns-then-at-sheet
returns-then-at-sheet c =
    let width = c.args.width in
    let all : width + (56 - width) ≡ 56 = omega arith in
    wide-front c.wide_at.ensures width (56 - width) all

pub bytes_at-spanned-requires : goal.bytes_at-spanned-requires
bytes_at-spanned-requires c = let args = c.args in (omega arith, omega (arith, spanned args.at args.width), omega arith)

pub returns : goal.returns
returns c =
    let at = c.args.at in
    let width = c.args.width in
    let bytes = known_bytes c.args.sheet.now (λ j. omega (arith, c.type_inv.sheet j)) in
    c.low_bits.ensures ∙ ap (λ number. number / 2 ^ behind at width % 2 ^ width) c.bytes_at-spanned.ensures
    ∙ spanned-field at width c.args.sheet.now bytes c.requires.2
