-- The fields within a wide number: each is a part of it, and a field whose test its part passes is read as that part. Rests on the laws of fields
-- in parts.
use mathlib.Core.Path.{◌≡◌, sym, ap, ap₂, ◌∙◌}
use mathlib.Core.List.{List}
use mathlib.Core.Bool.{Bool, true}
use Prim.Native.Nat.{ℕ, ◌+◌, ◌*◌, ◌-◌, ◌/◌, ◌%◌, ◌^◌, ◌≤◌}
use native.Mathlib.Omega.{arith}
use native.Mathlib.Nat.{add-zero}
use lib.ListN.{length}
use lib.Pow.{pow_pos, low, shl-shr, shr-shr, mod-pow-add, field as pow-field}
use borrow.Author.Tests.{le-leb}
use Rattle.definition.specs.Field.{sheet_bits, field_at, got, read_field, field}
use Rattle.definition.proofs.Bits.{Bytes, sheet-bits, length-sheet_bits}
use Rattle.field.specs.Wide.{Wide}
use Rattle.field.proofs.FieldAt.{field-front, field-within}

-- ## Eight bytes, less what stands before a place in the first of them
shifted : (n k : ℕ) → k ≤ 8 → n * 2 ^ k % 2 ^ 64 / 2 ^ 8 ≡ n / 2 ^ (8 - k) % 2 ^ 56
shifted n k l =
    let kept = 56 + (8 - k) in
    let whole : 64 ≡ kept + k = omega arith in
    let byte : 8 ≡ k + (8 - k) = omega arith in
    let none : n * 2 ^ k % 2 ^ k ≡ 0 = ap (◌% 2 ^ k) (sym (add-zero (n * 2 ^ k))) ∙ low n k (pow_pos k) in
    let up : n * 2 ^ k % 2 ^ (kept + k) ≡ n % 2 ^ kept * 2 ^ k =
    mod-pow-add (n * 2 ^ k) kept k ∙ ap₂ (λ a b. a % 2 ^ kept * 2 ^ k + b) (shl-shr n k) none ∙ add-zero (n % 2 ^ kept * 2 ^ k) in
    ap₂ (λ w b. n * 2 ^ k % 2 ^ w / 2 ^ b) whole byte ∙ ap (◌/ 2 ^ (k + (8 - k))) up ∙ sym (shr-shr (n % 2 ^ kept * 2 ^ k) k (8 - k))
    ∙ ap (◌/ 2 ^ (8 - k)) (shl-shr (n % 2 ^ kept) k) ∙ pow-field n 56 (8 - k)

pub eight-bytes : (s : List ℕ) → Bytes s → (at n : ℕ) → at / 8 + 8 ≤ length s → n ≡ field_at (sheet_bits s) (8 * (at / 8)) 64
    → Wide (sheet_bits s) at 56 (n * 2 ^ (at % 8) % 2 ^ 64 / 2 ^ 8)
eight-bytes s o at n l e =
    let all : at % 8 + (56 + (8 - at % 8)) ≡ 64 = omega arith in
    let place : 8 * (at / 8) + at % 8 ≡ at = omega arith in
    record {
      bits = sheet-bits s o;
      room = omega (arith, length-sheet_bits s);
      same =
          shifted n (at % 8) (omega arith)
          ∙ ap (λ m. m / 2 ^ (8 - at % 8) % 2 ^ 56) (e ∙ ap (field_at (sheet_bits s) (8 * (at / 8))) (sym all))
          ∙ field-within (sheet_bits s) (sheet-bits s o) (8 * (at / 8)) (at % 8) 56 (8 - at % 8) (omega (arith, length-sheet_bits s))
          ∙ ap (λ p. field_at (sheet_bits s) p 56) place;
    }

-- ## The parts of a wide number
module _ {s : List ℕ} {p w n : ℕ} (wide : Wide s p w n) where
  -- its first bits
  pub wide-front : (a b : ℕ) → a + b ≡ w → n / 2 ^ b ≡ field_at s p a
  wide-front a b e =
      ap (◌/ 2 ^ b) (wide.same ∙ ap (field_at s p) (sym e)) ∙ field-front s wide.bits p a b (omega (arith, wide.room))

  -- the bits at a place within it
  module _ (before width behind : ℕ) (e : before + (width + behind) ≡ w) where
    pub wide-part : n / 2 ^ behind % 2 ^ width ≡ field_at s (p + before) width
    wide-part =
        ap (λ m. m / 2 ^ behind % 2 ^ width) (wide.same ∙ ap (field_at s p) (sym e))
        ∙ field-within s wide.bits p before width behind (omega (arith, wide.room))

    pub wide-within : (at : ℕ) → at ≡ p + before → Wide s at width (n / 2 ^ behind % 2 ^ width)
    wide-within at f =
        record { bits = wide.bits; room = omega (arith, wide.room); same = wide-part ∙ ap (λ q. field_at s q width) (sym f) }

    -- a field there, where its test passes
    pub wide-field : (c : ℕ) (ok : ℕ → Bool) (at end : ℕ) → at ≡ p + before → end ≡ at + width → ok (n / 2 ^ behind % 2 ^ width) ≡ true
        → (field c ok width).read s at ≡ got (n / 2 ^ behind % 2 ^ width) end
    unfolding field read_field
    wide-field c ok at end f g t =
        let value : field_at s at width ≡ n / 2 ^ behind % 2 ^ width = ap (λ q. field_at s q width) f ∙ sym wide-part in
        rw (le-leb (at + width) (length s) (omega (arith, wide.room)), ap ok value ∙ t, read_field) (ap₂ got value (sym g))
