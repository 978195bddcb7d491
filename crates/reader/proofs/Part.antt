-- A field read in the sheet's bytes from its own byte on is the field of the whole sheet. Rests on the definition's laws of bits and
-- on those of crate `field`.
use mathlib.Core.Path.{◌≡◌, refl, sym, ap, ◌∙◌}
use mathlib.Core.List.{List}
use mathlib.Core.Bool.{Bool, true, false}
use Prim.Native.Nat.{ℕ, ◌+◌, ◌*◌, ◌-◌, ◌/◌, ◌%◌, ◌≤◌, ◌<◌}
use native.Mathlib.Omega.{arith}
use lib.Dec.{leb}
use lib.ListN.{length, take, drop, length-drop}
use lib.Seq.{take_all, drop-drop}
use borrow.Author.Tests.{leb-true, leb-false}
use Rattle.definition.specs.Field.{number, sheet_bits, field_at, Read, got, refused, past_end, read_field, field, plain}
use Rattle.definition.proofs.Bits.{length-sheet_bits}
use Rattle.definition.proofs.Faithful.{clash}
use Rattle.field.proofs.Bytes.{drop-bytes}
use Rattle.field.proofs.Taking.{take-value, take_short}

-- ## What a reading says of a field of any value
module _ (w : ℕ) (s : List ℕ) (p : ℕ) where
  got-within : (v n : ℕ) → (plain w).read s p ≡ got v n → (v ≡ field_at s p w) × (p + w ≤ length s)
  unfolding field read_field
  got-within v n e = go (leb (p + w) (length s)) refl
    where
      go : (a : Bool) → leb (p + w) (length s) ≡ a → (v ≡ field_at s p w) × (p + w ≤ length s)
      go false l = clash past_end p v n (rw (l, read_field) at e)
      go true l =
          let g : got (field_at s p w) (p + w) ≡ got v n = rw (l, read_field) at e in
          let x : v ≡ field_at s p w = cc in
          (x, leb-true (p + w) (length s) l)

  refused-past : (c q : ℕ) → (plain w).read s p ≡ refused c q → (c ≡ past_end) × (length s < p + w)
  unfolding field read_field
  refused-past c q e = go (leb (p + w) (length s)) refl
    where
      go : (a : Bool) → leb (p + w) (length s) ≡ a → (c ≡ past_end) × (length s < p + w)
      go true l = clash c q (field_at s p w) (p + w) (sym (rw (l, read_field) at e))
      go false l =
          let g : ◌≡◌ {A = Read ℕ} (refused past_end p) (refused c q) = rw (l, read_field) at e in
          let x : c ≡ past_end = cc in
          (x, leb-false (p + w) (length s) l)

-- ## The sheet from the field's first byte on
module _ (s : List ℕ) (at w : ℕ) (within : at / 8 ≤ length s) (part : List ℕ) (is : part ≡ take (length s - at / 8) (drop (at / 8) s)) where
  part-drops : part ≡ drop (at / 8) s
  part-drops = is ∙ take_all (length s - at / 8) (drop (at / 8) s) (omega (arith, length-drop (at / 8) s))

  length_part : length (sheet_bits part) + 8 * (at / 8) ≡ 8 * length s
  length_part = omega (arith, length-sheet_bits part, ap length part-drops, length-drop (at / 8) s)

  same-field : field_at (sheet_bits part) (at % 8) w ≡ field_at (sheet_bits s) at w
  unfolding field_at
  same-field =
      let place : 8 * (at / 8) + at % 8 ≡ at = omega arith in
      ap (λ bytes. number (take w (drop (at % 8) (sheet_bits bytes)))) part-drops
      ∙ ap (λ bs. number (take w (drop (at % 8) bs))) (sym (drop-bytes s (at / 8) within))
      ∙ ap (λ bs. number (take w bs)) (drop-drop (at % 8) (8 * (at / 8)) (sheet_bits s) ∙ ap (λ p. drop p (sheet_bits s)) place)

  module _ (v n : ℕ) (e : got v n ≡ (plain w).read (sheet_bits part) (at % 8)) where
    pub part-within : at + w ≤ 8 * length s
    part-within = omega (arith, (got-within w (sheet_bits part) (at % 8) v n (sym e)).1, length_part)

    pub part-value : got v (at + w) ≡ (plain w).read (sheet_bits s) at
    part-value = take-value s at w v ((got-within w (sheet_bits part) (at % 8) v n (sym e)).0 ∙ same-field) part-within

  pub part-short : (c q : ℕ) → refused c q ≡ (plain w).read (sheet_bits part) (at % 8) → refused past_end at ≡ (plain w).read (sheet_bits s) at
  part-short c q e = take_short s at w (omega (arith, (refused-past w (sheet_bits part) (at % 8) c q (sym e)).1, length_part))
