-- Bits copied a field at a time: what is still to be copied, stored now, leaves what the whole row leaves.
-- Rests on crate `field`'s laws of fields in parts.
use mathlib.Core.Path.{◌≡◌, sym, ap, ap₂, ◌∙◌}
use mathlib.Core.List.{List, ◌++◌}
use Prim.Native.Nat.{ℕ, ◌+◌, ◌-◌, ◌≤◌}
use native.Mathlib.Omega.{arith}
use lib.ListN.{length, take, drop}
use lib.Seq.{sets, take-add, drop-drop}
use Rattle.laws.proofs.Stores.{sets-append}
use Rattle.definition.specs.Field.{bits, field_at}
use Rattle.definition.proofs.Bits.{Bits, length-bits}
use Rattle.field.proofs.FieldAt.{field-length, field-bits}

module _ (s : List ℕ) (from count at : ℕ) where
  -- the bits behind the first `done`
  abbrev pub still : ℕ → List ℕ
  still done = take (count - done) (drop (from + done) s)

  pub copy-first : (l : List ℕ) → sets l (at + 0) (still 0) ≡ sets l at (take count (drop from s))
  copy-first l =
      let p : at + 0 ≡ at = omega arith in
      let q : from + 0 ≡ from = omega arith in
      let n : count - 0 ≡ count = omega arith in
      ap₂ (λ i t. sets l i t) p (ap₂ (λ k j. take k (drop j s)) n q)

  pub copy-next : Bits s → from + count ≤ length s → (l m : List ℕ) (done width value : ℕ) → done + width ≤ count → value ≡ field_at s (from + done) width
      → m ≡ sets l (at + done) (bits width value) → sets m (at + (done + width)) (still (done + width)) ≡ sets l (at + done) (still done)
  copy-next o h l m done width value k e f =
      let first = bits width value in
      let p : at + (done + width) ≡ at + done + length (bits width value) = omega (arith, length-bits width value) in
      let q : from + (done + width) ≡ from + done + width = omega arith in
      let n : count - done ≡ width + (count - (done + width)) = omega arith in
      let two : still done ≡ first ++ still (done + width) =
      ap (λ j. take j (drop (from + done) s)) n ∙ take-add width (count - (done + width)) (drop (from + done) s)
      ∙ ap₂ (λ x y. x ++ take (count - (done + width)) y) (sym (ap (bits width) e ∙ field-bits s o (from + done) width (omega arith)))
      (drop-drop width (from + done) s ∙ ap (λ j. drop j s) (sym q)) in
      ap₂ (λ u i. sets u i (still (done + width))) f p ∙ sym (ap (sets l (at + done)) two ∙ sets-append l (at + done) first (still (done + width)))

  pub copy-end : (l : List ℕ) (done : ℕ) → count ≤ done → l ≡ sets l (at + done) (still done)
  copy-end l done h = let z : count - done ≡ 0 = omega arith in sym (ap (λ k. sets l (at + done) (take k (drop (from + done) s))) z)

-- ## Bits behind bits
module _ (s : List ℕ) (from at a b : ℕ) (h : from + (a + b) ≤ length s) where
  pub copied-then : (l m n : List ℕ) (place : ℕ) → place ≡ at + a → m ≡ sets l at (take a (drop from s)) → n ≡ sets m place (take b (drop (from + a) s))
      → n ≡ sets l at (take (a + b) (drop from s))
  copied-then l m n place behind first second =
      let front = take a (drop from s) in
      let long : length (take a (drop from s)) ≡ a = field-length s from a (omega arith) in
      second ∙ ap₂ (λ u k. sets u k (take b (drop (from + a) s))) first (behind ∙ ap (at +◌) (sym long))
      ∙ sym (ap (sets l at) (take-add a b (drop from s) ∙ ap (λ t. front ++ take b t) (drop-drop a from s)) ∙ sets-append l at front (take b (drop (from + a) s)))
