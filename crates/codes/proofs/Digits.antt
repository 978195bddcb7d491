-- Numbers made of digits are ordered by their digits, the highest digit first.
use mathlib.Core.Path.{◌≡◌, refl, sym, ◌∙◌}
use mathlib.Core.Bool.{Bool, true, false, ◌&&◌, ◌||◌}
use Prim.Native.Nat.{ℕ, suc, ◌+◌, ◌*◌, ◌≤◌, ◌<◌}
use native.Mathlib.Nat.{mul-le-mul_right}
use native.Mathlib.Omega.{arith}
use lib.Dec.{eqb, leb, ltb}
use borrow.Author.Tests.{ltb-true, ltb-false, leb-true, le-leb, lt-ltb, le-ltb, eqb-true, eqb-false, eq-eqb, ne_eqb}
use Rattle.laws.proofs.Flags.{same_flag_lem, not-true}

-- a number with a higher digit less is less
higher : (w a c b d : ℕ) → b < w → a < c → a * w + b < c * w + d
higher w a c b d l h = let k : suc a * w ≤ c * w = mul-le-mul_right w h in omega arith

-- equal numbers with digits below w have equal digits
pub digit-step : (w a c b d : ℕ) (rest : Bool) → b < w → d < w
    → ltb (a * w + b) (c * w + d) || (eqb (a * w + b) (c * w + d) && rest) ≡ ltb a c || (eqb a c && (ltb b d || (eqb b d && rest)))
digit-step w a c b d rest l k = go (ltb a c) refl (ltb c a) refl
  where
    go : (s : Bool) → ltb a c ≡ s → (t : Bool) → ltb c a ≡ t
        → ltb (a * w + b) (c * w + d) || (eqb (a * w + b) (c * w + d) && rest) ≡ ltb a c || (eqb a c && (ltb b d || (eqb b d && rest)))
    go true p t q = rw (p, lt-ltb (a * w + b) (c * w + d) (higher w a c b d l (ltb-true a c p)))
    go false p true q =
        let h = higher w c a d b k (ltb-true c a q) in
        let m = ltb-true c a q in
        rw (p, le-ltb (a * w + b) (c * w + d) (omega arith), ne_eqb (a * w + b) (c * w + d) (omega arith), ne_eqb a c (omega arith))
    go false p false q =
        let e : a ≡ c = omega (arith, ltb-false a c p, ltb-false c a q) in
        rw (p, eq-eqb a c e, e, less, same)
      where
        less : ltb (c * w + b) (c * w + d) ≡ ltb b d
        less = same_flag_lem _ _
            (λ h. let m = ltb-true (c * w + b) (c * w + d) h in lt-ltb b d (omega arith))
            (λ h. let m = ltb-true b d h in lt-ltb (c * w + b) (c * w + d) (omega arith))

        same : eqb (c * w + b) (c * w + d) ≡ eqb b d
        same = same_flag_lem _ _
            (λ h. let m = eqb-true (c * w + b) (c * w + d) h in eq-eqb b d (omega arith))
            (λ h. let m = eqb-true b d h in eq-eqb (c * w + b) (c * w + d) (omega arith))

pub not-above : (a c : ℕ) → leb a c ≡ ltb a c || (eqb a c && true)
not-above a c = go (ltb a c) refl (eqb a c) refl
  where
    go : (s : Bool) → ltb a c ≡ s → (t : Bool) → eqb a c ≡ t → leb a c ≡ ltb a c || (eqb a c && true)
    go true p t q = le-leb a c (omega (arith, ltb-true a c p)) ∙ sym (rw p)
    go false p true q = le-leb a c (omega (arith, eqb-true a c q)) ∙ sym (rw (p, q))
    go false p false q = not-true (leb a c) (λ h. omega (arith, leb-true a c h, ltb-false a c p, eqb-false a c q)) ∙ sym (rw (p, q))
