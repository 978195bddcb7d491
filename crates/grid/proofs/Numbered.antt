-- Values by numbers: 0 for none, else one more than the number of the first cell that has the value.
use mathlib.Core.Path.{◌≡◌, refl, sym, ◌∙◌}
use mathlib.Core.Bool.{Bool, true, false}
use Prim.Native.Nat.{ℕ, zero, suc, ◌<◌}
use native.Mathlib.Omega.{arith}
use lib.Dec.{eqb, ltb}
use borrow.Author.Tests.{eq-eqb, ne_eqb, ltb-true, ltb-false}

module _ {X : Type 0} (same : X → X → Bool) (none : X) (D : ℕ → X) where
  -- the value of a number
  abbrev pub value_of : ℕ → X
  value_of zero = none
  value_of (suc j) = D j

  -- a number in use: 0, or the first cell of its value, which is one
  abbrev pub InUse : ℕ → Type 0
  InUse zero = Unit {0}
  InUse (suc j) = ((i : ℕ) → i < j → same (D i) (D j) ≡ false) × (same (D j) none ≡ false)

  -- numbers in use are equal where their values are
  pub keeps : ((x : X) → same x x ≡ true) → ((x y : X) → same x y ≡ same y x) → (u v : ℕ) → InUse u → InUse v → same (value_of u) (value_of v) ≡ eqb u v
  keeps self turn zero zero p q = self none
  keeps self turn zero (suc j) p q = turn none (D j) ∙ q.1 ∙ sym (ne_eqb 0 (suc j) (omega arith))
  keeps self turn (suc i) zero p q = p.1 ∙ sym (ne_eqb (suc i) 0 (omega arith))
  keeps self turn (suc i) (suc j) p q = go (ltb i j) refl (ltb j i) refl
    where
      go : (a : Bool) → ltb i j ≡ a → (b : Bool) → ltb j i ≡ b → same (D i) (D j) ≡ eqb (suc i) (suc j)
      go true e b f = q.0 i (ltb-true i j e) ∙ sym (ne_eqb (suc i) (suc j) (omega (arith, ltb-true i j e)))
      go false e true f = turn (D i) (D j) ∙ p.0 j (ltb-true j i f) ∙ sym (ne_eqb (suc i) (suc j) (omega (arith, ltb-true j i f)))
      go false e false f =
          let s : i ≡ j = omega (arith, ltb-false i j e, ltb-false j i f) in
          rw s (self (D j) ∙ sym (eq-eqb (suc j) (suc j) refl))
