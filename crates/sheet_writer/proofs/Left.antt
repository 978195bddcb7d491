-- The end of a sheet: bits of another sheet, then the padding. Rests on the laws of bits stored one behind the other.
use mathlib.Core.Path.{◌≡◌, sym, ap₂, ◌∙◌}
use mathlib.Core.List.{List, ◌++◌}
use Prim.Native.Nat.{ℕ, ◌+◌, ◌*◌, ◌-◌, ◌≤◌}
use native.Mathlib.Omega.{arith}
use lib.ListN.{length, length-append}
use lib.Seq.{sets}
use Rattle.laws.proofs.Stores.{sets-append}
use Rattle.definition.specs.Field.{bytes_for, sheet_bits}
use Rattle.definition.proofs.Bits.{length-sheet_bits}
use Rattle.field.proofs.FieldAt.{field-length}
use Rattle.item_writer.specs.Written.{Wrote}
use Rattle.sheet_writer.specs.Frame.{padding, between}
use Rattle.sheet_writer.proofs.Frame.{padding-length}

pub between-length : (sheet : List ℕ) (start end : ℕ) → start ≤ end → end ≤ 8 * length sheet → length (between sheet start end) ≡ end - start
between-length sheet start end o h = field-length (sheet_bits sheet) start (end - start) (omega (arith, length-sheet_bits sheet))

pub end-wrote : {old out copied : List ℕ} (others : List ℕ) {place n : ℕ} → length others ≡ n → copied ≡ sets (sheet_bits old) place others
    → sheet_bits out ≡ sets copied (place + n) (padding (place + n)) → Wrote old place (others ++ padding (place + n)) out (8 * bytes_for (place + n))
end-wrote {old} {out} {copied} others {place} {n} e first second =
    let pad = padding (place + n) in
    let at : place + n ≡ place + length others = omega (arith, e) in
    record {
      behind = omega (arith, e, length-append others pad, padding-length (place + n));
      stored = second ∙ ap₂ (λ s j. sets s j pad) first at ∙ sym (sets-append (sheet_bits old) place others pad);
    }
