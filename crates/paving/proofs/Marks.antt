-- Marks: what painting a dimension leaves, and what growing paints. Rests on the columns' laws.
use mathlib.Core.Path.{◌≡◌, refl, sym, ap, ap₂, ◌∙◌}
use mathlib.Core.Bool.{Bool, true, false, cond}
use mathlib.Core.List.{List, ◌∷◌}
use Prim.Native.Nat.{ℕ, zero, suc, ◌+◌, ◌-◌, ◌*◌, ◌≤◌, ◌<◌}
use native.Mathlib.Omega.{arith}
use lib.Dec.{eqb, ltb}
use lib.ListN.{length, get_or, set, length-set}
use lib.Seq.{get_or-set_same, get_or-set_other}
use borrow.Author.Tests.{ltb-true, ltb-false}
use Rattle.laws.specs.Lists.{from, keep}
use Rattle.laws.proofs.Flags.{bit-flag}
use Rattle.grid.specs.Group.{at, agree}
use Rattle.paving.specs.Grid.{grid, chosen, marks_from, good_at, paint}
use Rattle.paving.proofs.Room.{at-grid}

pub keep-ext : (t u : ℕ → Bool) (s n : ℕ) → ((x : ℕ) → s ≤ x → x < s + n → t x ≡ u x) → keep t (from s n) ≡ keep u (from s n)
unfolding keep from
keep-ext t u s zero h = refl
keep-ext t u s (suc n) h = go (u s) refl (keep-ext t u (suc s) n (λ x l k. h x (omega arith) (omega arith)))
  where
    go : (b : Bool) → u s ≡ b → keep t (from (suc s) n) ≡ keep u (from (suc s) n) → keep t (from s (suc n)) ≡ keep u (from s (suc n))
    go true e ih = rw (h s (omega arith) (omega arith), e, keep) (ap (s ∷◌) ih)
    go false e ih = rw (h s (omega arith) (omega arith), e, keep) ih

chosen-ext : (s t sizes : List ℕ) (l base : ℕ) → ((k : ℕ) → base ≤ k → get_or s k 0 ≡ get_or t k 0) → chosen s sizes l base ≡ chosen t sizes l base
unfolding chosen marks_from
chosen-ext s t sizes zero base h = refl
chosen-ext s t sizes (suc l) base h =
    ap₂ ◌∷◌
    (keep-ext (λ y. eqb (get_or s (base + y) 0) 1) (λ y. eqb (get_or t (base + y) 0) 1) 0 (get_or sizes l 0 - 0)
    (λ x _ _. ap (λ v. eqb v 1) (h (base + x) (omega arith))))
    (chosen-ext s t sizes l (base + get_or sizes l 0) (λ k le. h k (omega arith)))

module _ (t : ℕ → Bool) (base : ℕ) where
  paint-low : (j r : ℕ) (s : List ℕ) (k : ℕ) → k < base + j → get_or (paint t base j r s) k 0 ≡ get_or s k 0
  unfolding paint
  paint-low j zero s k h = refl
  paint-low j (suc r) s k h =
      paint-low (j + 1) r (set s (base + j) (cond (t j) 1 0)) k (omega arith) ∙ get_or-set_other s (base + j) k (cond (t j) 1 0) 0 (omega arith)

  paint-high : (j r : ℕ) (s : List ℕ) (k : ℕ) → base + j + r ≤ k → get_or (paint t base j r s) k 0 ≡ get_or s k 0
  unfolding paint
  paint-high j zero s k h = refl
  paint-high j (suc r) s k h =
      paint-high (j + 1) r (set s (base + j) (cond (t j) 1 0)) k (omega arith) ∙ get_or-set_other s (base + j) k (cond (t j) 1 0) 0 (omega arith)

  paint-at : (j r : ℕ) (s : List ℕ) (x : ℕ) → j ≤ x → x < j + r → base + j + r ≤ length s → get_or (paint t base j r s) (base + x) 0 ≡ cond (t x) 1 0
  unfolding paint
  paint-at j zero s x l h f = absurd (omega arith)
  paint-at j (suc r) s x l h f = go (ltb j x) refl (paint-at (j + 1) r (set s (base + j) (cond (t j) 1 0)) x)
    where
      s' : List ℕ
      s' = set s (base + j) (cond (t j) 1 0)

      go : (b : Bool) → ltb j x ≡ b
          → (j + 1 ≤ x → x < j + 1 + r → base + (j + 1) + r ≤ length s' → get_or (paint t base (j + 1) r s') (base + x) 0 ≡ cond (t x) 1 0)
          → get_or (paint t base (j + 1) r s') (base + x) 0 ≡ cond (t x) 1 0
      go true e ih = ih (omega (arith, ltb-true j x e)) (omega arith) (omega (arith, length-set s (base + j) (cond (t j) 1 0)))
      go false e ih =
          let q : x ≡ j = omega (arith, ltb-false j x e) in
          paint-low (j + 1) r s' (base + x) (omega arith) ∙ rw q (get_or-set_same s (base + j) (cond (t j) 1 0) 0 (omega arith))

pub paint-ext : (t u : ℕ → Bool) (base j r : ℕ) (s : List ℕ) → ((x : ℕ) → j ≤ x → x < j + r → t x ≡ u x) → paint t base j r s ≡ paint u base j r s
unfolding paint
paint-ext t u base j zero s h = refl
paint-ext t u base j (suc r) s h =
    paint-ext t u base (j + 1) r (set s (base + j) (cond (t j) 1 0)) (λ x l k. h x (omega arith) (omega arith))
    ∙ ap (λ b. paint u base (j + 1) r (set s (base + j) (cond b 1 0))) (h j (omega arith) (omega arith))

-- ## Painting by a loop
pub paint-all : (t : ℕ → Bool) (base n : ℕ) (s : List ℕ) → paint t base 0 (n - 0) s ≡ paint t base 0 n s
paint-all t base n s = let z : n - 0 ≡ n = omega arith in ap (λ m. paint t base 0 m s) z

pub paint-in : (t : ℕ → Bool) (base j n : ℕ) (s : List ℕ) (w : ℕ) → j < n → w ≡ cond (t j) 1 0
    → paint t base (j + 1) (n - (j + 1)) (set s (base + j) w) ≡ paint t base j (n - j) s
unfolding paint
paint-in t base j n s w h q =
    let z : n - j ≡ suc (n - (j + 1)) = omega arith in
    ap (λ x. paint t base (j + 1) (n - (j + 1)) (set s (base + j) x)) q ∙ sym (ap (λ m. paint t base j m s) z)

pub paint-end : (t : ℕ → Bool) (base j n : ℕ) (s : List ℕ) → n ≤ j → s ≡ paint t base j (n - j) s
unfolding paint
paint-end t base j n s h = let z : n - j ≡ 0 = omega arith in rw z

-- ## What growing paints
pub chosen-paint : (t : ℕ → Bool) (s sizes : List ℕ) (i base : ℕ) → base + get_or sizes i 0 ≤ length s
    → chosen (paint t base 0 (get_or sizes i 0 - 0) s) sizes (suc i) base ≡ keep t (from 0 (get_or sizes i 0)) ∷ chosen s sizes i (base + get_or sizes i 0)
unfolding chosen marks_from
chosen-paint t s sizes i base h =
    let n = get_or sizes i 0 in
    let z : n - 0 ≡ n = omega arith in
    ap₂ ◌∷◌
    (keep-ext (λ y. eqb (get_or (paint t base 0 (n - 0) s) (base + y) 0) 1) t 0 (n - 0)
    (λ x l k. ap (λ v. eqb v 1) (paint-at t base 0 (n - 0) s x (omega arith) (omega arith) (omega arith)) ∙ bit-flag (t x)) ∙ ap (λ m. keep t (from 0 m)) z)
    (chosen-ext (paint t base 0 (n - 0) s) s sizes i (base + n) (λ k le. paint-high t base 0 (n - 0) s k (omega arith)))

module _ (cells sizes : List ℕ) (v i node base n j : ℕ) (e : n ≡ get_or sizes i 0) where
  pub good-here : (s : List ℕ) (b : Bool) → j < n → b ≡ agree eqb v (chosen s sizes i (base + n)) (grid cells sizes i (node * n + j))
      → good_at cells sizes i node s base v j ≡ b
  unfolding good_at
  good-here s b h a = rw (at-grid cells sizes i node j (omega arith), ← (rw e at a))

  good-set : (s : List ℕ) (w : ℕ) → j < n → good_at cells sizes i node (set s (base + j) w) base v ≡ good_at cells sizes i node s base v
  unfolding good_at
  good-set s w h =
      ap (λ S. λ x. agree eqb v S (at (grid cells sizes (suc i) node) x))
      (chosen-ext (set s (base + j) w) s sizes i (base + get_or sizes i 0) (λ k le. get_or-set_other s (base + j) k w 0 (omega arith)))

  -- a column marked: what is left to paint from here gives what it gave before
  pub grow-in : (s : List ℕ) (b : Bool) (w : ℕ) → j < n → b ≡ agree eqb v (chosen s sizes i (base + n)) (grid cells sizes i (node * n + j)) → w ≡ cond b 1 0
      → paint (good_at cells sizes i node (set s (base + j) w) base v) base (j + 1) (n - (j + 1)) (set s (base + j) w)
      ≡ paint (good_at cells sizes i node s base v) base j (n - j) s
  grow-in s b w h a q =
      ap (λ t. paint t base (j + 1) (n - (j + 1)) (set s (base + j) w)) (good-set s w h)
      ∙ paint-in (good_at cells sizes i node s base v) base j n s w h (q ∙ ap (λ x. cond x 1 0) (sym (good-here s b h a)))
