-- `writer::copy_bits` meets its contract: three copies, one behind the other.
use mathlib.Core.Path.{◌≡◌, refl, ap, ◌∙◌}
use Prim.Native.Nat.{◌+◌, ◌-◌, ◌*◌, ◌/◌, ◌%◌, ◌≤◌}
use native.Mathlib.Omega.{arith}
use lib.ListN.{take, drop}
use lib.Seq.{sets}
use Rattle.definition.specs.Field.{sheet_bits}
use Rattle.definition.proofs.Bits.{length-sheet_bits}
use Rattle.writer.proofs.Copying.{copied-then}
use Rattle.writer.proofs.copy_bits.Goals as goal

pub returns : goal.returns
returns c =
    let args = c.args in
    let s = sheet_bits args.sheet.now in
    let from = args.from in
    let at = args.at in
    let count = args.count in
    let lead = (8 - at % 8) % 8 in
    let bytes = (count - lead) / 8 - 1 in
    let more : 16 ≤ count - (8 - at % 8) % 8 = omega (arith, c.if-count-lead) in
    let aligned : 8 * ((at + (8 - at % 8) % 8) / 8) ≡ at + (8 - at % 8) % 8 = omega arith in
    let rest : (8 - at % 8) % 8 + 8 * ((count - (8 - at % 8) % 8) / 8 - 1) + (count - ((8 - at % 8) % 8 + 8 * ((count - (8 - at % 8) % 8) / 8 - 1))) ≡ count = omega (arith, more) in
    let long = length-sheet_bits args.sheet.now in
    let two = copied-then s from at lead (8 * bytes) (omega (arith, long, c.requires.0, more)) _ _ _ _ aligned c.copy_fields-2.ensures
    c.copy_bytes.ensures in
    copied-then s from at (lead + 8 * bytes) (count - (lead + 8 * bytes)) (omega (arith, long, c.requires.0, rest)) _ _ _ _ refl two c.copy_fields-3.ensures
    ∙ ap (λ n. sets (sheet_bits args.out.now) at (take n (drop from s))) rest
