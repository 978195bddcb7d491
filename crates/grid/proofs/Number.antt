-- Interval numbers as coordinates: interval x lies between cut x and the next. Rests on the laws of intervals.
use mathlib.Core.Path.{◌≡◌, refl, sym, ap, ◌∙◌}
use mathlib.Core.List.{List, ◌++◌, flat_map}
use mathlib.Core.Bool.{Bool, true, false}
use Prim.Native.Nat.{ℕ, zero, suc, ◌+◌, ◌-◌, ◌≤◌, ◌<◌}
use native.Mathlib.Omega.{arith}
use lib.Dec.{eqb, ltb}
use borrow.Author.Tests.{eqb-true, eqb-false, ltb-true, ltb-false}
use Rattle.laws.specs.Lists.{from, any_of, All}
use Rattle.laws.proofs.Numbers.{from-append, All-from}
use Rattle.grid.proofs.Image.{In, Apart}
use Rattle.grid.proofs.Interval.{block, block-all, block_in, block-low, block-high}

-- the coordinates of interval x
abbrev pub interval : (ℕ → ℕ) → ℕ → List ℕ
interval cut x = block (cut x, cut (suc x))

module _ (cut : ℕ → ℕ) (n : ℕ) (rises : (x : ℕ) → x < n → cut x < cut (suc x)) where
  mono : (x d : ℕ) → x + d ≤ n → cut x ≤ cut (x + d)
  mono x zero h = let e : cut x ≡ cut (x + 0) = ap cut (let q : x ≡ x + 0 = omega arith in q) in omega arith
  mono x (suc d) h =
      let e : cut (suc (x + d)) ≡ cut (x + suc d) = ap cut (let q : suc (x + d) ≡ x + suc d = omega arith in q) in
      omega (arith, mono x d (omega arith), rises (x + d) (omega arith), e)

  below : (x y : ℕ) → x ≤ y → y ≤ n → cut x ≤ cut y
  below x y h k = let e : cut (x + (y - x)) ≡ cut y = ap cut (let q : x + (y - x) ≡ y = omega arith in q) in omega (arith, mono x (y - x) (omega arith), e)

  -- the intervals lie apart
  pub interval-apart : Apart (interval cut) eqb eqb (from 0 n)
  interval-apart =
      All-from (λ x. All (λ b. In (interval cut) eqb eqb (from 0 n) x b) (interval cut x)) 0 n
      (λ x _ k. block-all (cut x, cut (suc x)) (rises x (omega arith)) (λ b. In (interval cut) eqb eqb (from 0 n) x b)
      (λ b lo hi. All-from (λ y. eqb x y ≡ any_of (eqb b) (interval cut y)) 0 n (λ y _ m. same x y b (omega arith) (omega arith) lo hi (eqb x y) refl)))
    where
      apart : (x y b : ℕ) → x < n → y < n → cut x ≤ b → b < cut (suc x) → (x ≡ y → ⊥) → (t : Bool) → ltb x y ≡ t → false ≡ any_of (eqb b) (interval cut y)
      apart x y b k m lo hi ne true t = sym (block-low (cut y, cut (suc y)) (rises y m) b (omega (arith, below (suc x) y (ltb-true x y t) (omega arith))))
      apart x y b k m lo hi ne false t =
          sym (block-high (cut y, cut (suc y)) (rises y m) b (omega (arith, below (suc y) x (omega (arith, ltb-false x y t)) (omega arith))))

      same : (x y b : ℕ) → x < n → y < n → cut x ≤ b → b < cut (suc x) → (t : Bool) → eqb x y ≡ t → t ≡ any_of (eqb b) (interval cut y)
      same x y b k m lo hi true e =
          let q : cut x ≡ cut y = ap cut (eqb-true x y e) in
          let r : cut (suc x) ≡ cut (suc y) = ap (λ z. cut (suc z)) (eqb-true x y e) in
          sym (block_in (cut y, cut (suc y)) (rises y m) b (omega arith) (omega arith))
      same x y b k m lo hi false e = apart x y b k m lo hi (eqb-false x y e) (ltb x y) refl

  -- and have all coordinates from the first cut up to the last
  pub interval-all : (s d : ℕ) → s + d ≤ n → flat_map (interval cut) (from s d) ≡ from (cut s) (cut (s + d) - cut s)
  unfolding flat_map from
  interval-all s zero h =
      let e : 0 ≡ cut (s + 0) - cut s = (let q : cut (s + 0) ≡ cut s = ap cut (let w : s + 0 ≡ s = omega arith in w) in omega arith) in
      ap (from (cut s)) e
  interval-all s (suc d) h =
      let q : suc s + d ≡ s + suc d = omega arith in
      let up = rises s (omega arith) in
      let le = below (suc s) (suc s + d) (omega arith) (omega arith) in
      let e : suc (cut (suc s) - suc (cut s)) + (cut (suc s + d) - cut (suc s)) ≡ cut (suc s + d) - cut s = omega arith in
      ap (interval cut s ++◌) (interval-all (suc s) d (omega arith))
      ∙ from-append (cut s) (suc (cut (suc s) - suc (cut s))) (cut (suc s + d) - cut (suc s)) (cut (suc s)) (omega arith)
      ∙ ap (from (cut s)) (e ∙ ap (λ z. cut z - cut s) q)
