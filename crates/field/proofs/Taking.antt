-- A field with a test, by the field of any value: where that one is refused, so is this one; else the test decides.
use mathlib.Core.Path.{◌≡◌, refl, sym, ap, ap₂, ◌∙◌}
use mathlib.Core.List.{List}
use mathlib.Core.Bool.{Bool, true, false, cond}
use Prim.Native.Nat.{ℕ, ◌+◌, ◌*◌, ◌^◌, ◌≤◌, ◌<◌}
use native.Mathlib.Omega.{arith}
use lib.Dec.{leb, ltb}
use lib.ListN.{length}
use borrow.Author.Tests.{le-leb, lt-leb, ltb-true}
use Rattle.laws.proofs.Flags.{split-and}
use Rattle.definition.specs.Field.{sheet_bits, field_at, got, refused, past_end, read_field, field, plain}
use Rattle.definition.proofs.Bits.{Bytes, sheet-bits, length-sheet_bits}
use Rattle.definition.proofs.Faithful.{clash, field-faithful}

-- ## A field of any value
module _ (sheet : List ℕ) (at w : ℕ) where
  pub take-value : (v : ℕ) → v ≡ field_at (sheet_bits sheet) at w → at + w ≤ 8 * length sheet → got v (at + w) ≡ (plain w).read (sheet_bits sheet) at
  unfolding field read_field
  take-value v e l = rw (le-leb (at + w) (length (sheet_bits sheet)) (omega (arith, length-sheet_bits sheet)), read_field) (ap (λ u. got u (at + w)) e)

  pub take_short : 8 * length sheet < at + w → refused past_end at ≡ (plain w).read (sheet_bits sheet) at
  unfolding field read_field
  take_short l = rw (lt-leb (at + w) (length (sheet_bits sheet)) (omega (arith, length-sheet_bits sheet)), read_field)

-- ## The same field with a test
module _ (c : ℕ) (ok : ℕ → Bool) (w : ℕ) (s : List ℕ) (p : ℕ) where
  tested-got : (v n : ℕ) → (plain w).read s p ≡ got v n → (b : Bool) → ok v ≡ b → (field c ok w).read s p ≡ cond b (got v n) (refused c p)
  unfolding field read_field
  tested-got v n e b k = go (leb (p + w) (length s)) refl b k
    where
      go : (a : Bool) → leb (p + w) (length s) ≡ a → (d : Bool) → ok v ≡ d → read_field c ok w s p ≡ cond d (got v n) (refused c p)
      go false l d m = clash past_end p v n (rw (l, read_field) at e)
      go true l d m =
          let g : got (field_at s p w) (p + w) ≡ got v n = rw (l, read_field) at e in
          let x : field_at s p w ≡ v = cc in
          let z : p + w ≡ n = cc in
          pick d (ap ok x ∙ m) x z
        where
          pick : (f : Bool) → ok (field_at s p w) ≡ f → field_at s p w ≡ v → p + w ≡ n → read_field c ok w s p ≡ cond f (got v n) (refused c p)
          pick true q x z = rw (l, q, read_field) (ap₂ got x z)
          pick false q x z = rw (l, q, read_field)

  pub tested-refused : (d q : ℕ) → (plain w).read s p ≡ refused d q → (field c ok w).read s p ≡ refused d q
  unfolding field read_field
  tested-refused d q e = go (leb (p + w) (length s)) refl
    where
      go : (a : Bool) → leb (p + w) (length s) ≡ a → read_field c ok w s p ≡ refused d q
      go false l = rw (l, read_field) (rw (l, read_field) at e)
      go true l = clash d q (field_at s p w) (p + w) (sym (rw (l, read_field) at e))

  -- one lemma for each return of a function that takes a field and tests it; where no field is taken, `tested-refused`
  pub test-passed : {v n : ℕ} → got v n ≡ (plain w).read s p → ok v ≡ true → got v n ≡ (field c ok w).read s p
  test-passed {v} {n} e k = sym (tested-got v n (sym e) true k)

  pub test-failed : {v n : ℕ} → got v n ≡ (plain w).read s p → ok v ≡ false → refused c p ≡ (field c ok w).read s p
  test-failed {v} {n} e k = sym (tested-got v n (sym e) false k)

-- a value that was read fits its width
pub value-below : (sheet : List ℕ) → Bytes sheet → (c : ℕ) (ok : ℕ → Bool) (w at v n : ℕ) → (field c ok w).read (sheet_bits sheet) at ≡ got v n → v < 2 ^ w
unfolding field
value-below sheet o c ok w at v n e =
    ltb-true v (2 ^ w) (split-and (ltb v (2 ^ w)) (ok v) ((field-faithful c ok w).written (sheet_bits sheet) (sheet-bits sheet o) at v n e).1).0
