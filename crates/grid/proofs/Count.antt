-- How many: there are no more groups than points, and maximal runs are at most every other interval. Rests on the popped groups' laws.
use mathlib.Core.Path.{◌≡◌, refl, sym}
use mathlib.Core.List.{List, [], ◌∷◌}
use mathlib.Core.Logic.{◌⊎◌, inl, inr}
use mathlib.Core.Bool.{Bool, true, false}
use Prim.Native.Nat.{ℕ, suc, ◌+◌, ◌*◌, ◌-◌, ◌≤◌}
use native.Mathlib.Nat.{mul-le-mul_left, mul-le-mul_right}
use native.Mathlib.Omega.{arith}
use lib.Dec.{eqb, ltb}
use lib.ListN.{length}
use borrow.Author.Tests.{eq-eqb}
use Rattle.laws.specs.Lists.{keep, All, OnSome}
use Rattle.laws.specs.Tests.{Exact}
use Rattle.laws.proofs.Lists.{All-map, OnSome-map, sum_same}
use Rattle.grid.specs.Group.{Set, Map, size, pop, clear, groups}
use Rattle.grid.specs.Cut.{Range, between, intervals, cuts, cut_at, boxes, glue, joined}
use Rattle.grid.proofs.Value.{tally, pop-less}
use Rattle.grid.proofs.Size.{full, matched-full, empty-not-full, groups-weight}

-- ## No more groups than points
module _ {A W : Type 0} {eq : W → W → Bool} (exact : Exact eq) {same : A → A → Bool} (Exact-same : Exact same) (empty : W) (Ds : Set A) where
  pub groups-count : (oks : List (W → Bool)) → All (λ ok. ok empty ≡ false) oks → (f : Map A W) → length (groups eq same empty oks Ds f) ≤ size Ds
  groups-count oks z f = omega (arith, groups-weight exact Exact-same empty Ds (λ g. 1) one oks z f, sum_same 1 (groups eq same empty oks Ds f))
    where
      one : (ok : W → Bool) → ok empty ≡ false → (f : Map A W)
          → OnSome (λ g. 1 + tally (full exact Exact-same empty) Ds (clear same empty g.1 f) ≤ tally (full exact Exact-same empty) Ds f) (pop eq ok Ds f)
      one ok z f = OnSome-map (λ g h. omega arith) (pop eq ok Ds f)
          (pop-less exact Exact-same empty ok (full exact Exact-same empty) (matched-full exact Exact-same empty ok z)
          (empty-not-full exact Exact-same empty) Ds f)

-- ## Maximal runs are at most every other interval
-- how the first of the ranges begins, where there is one
abbrev Begins : ℕ → List Range → Type 0
Begins c [] = ⊥
Begins c (i ∷ D) = i.0 ≡ c

-- a range before others, joined to them where they meet
pub glue-more : (i : Range) (rs : List Range) → length (glue i rs) ≤ suc (length rs)
unfolding glue
glue-more i [] = omega arith
glue-more i (j ∷ rs) = go (eqb i.1 j.0) refl
  where
    go : (b : Bool) → eqb i.1 j.0 ≡ b → length (glue i (j ∷ rs)) ≤ suc (length (j ∷ rs))
    go true e = rw (e, glue) (omega arith)
    go false e = rw (e, glue) (omega arith)

pub joined-less : (D : List Range) → length (joined D) ≤ length D
unfolding joined
joined-less [] = omega arith
joined-less (i ∷ D) = omega (arith, glue-more i (joined D), joined-less D)

glue-joins : (i : Range) (rs : List Range) → Begins i.1 rs → length (glue i rs) ≡ length rs
unfolding glue
glue-joins i [] b = absurd b
glue-joins i (j ∷ rs) b = rw (eq-eqb i.1 j.0 (sym b), glue)

glue-begins : (i : Range) (rs : List Range) → Begins i.0 (glue i rs)
unfolding glue
glue-begins i [] = refl
glue-begins i (j ∷ rs) = go (eqb i.1 j.0) refl
  where
    go : (b : Bool) → eqb i.1 j.0 ≡ b → Begins i.0 (glue i (j ∷ rs))
    go true e = rw (e, glue)
    go false e = rw (e, glue)

-- of the intervals from a cut on: at most every other one begins a run, and one fewer where the first is not kept
half : (t : Range → Bool) (c : ℕ) (cs : List ℕ) → let D = between (c ∷ cs) in
    (2 * length (joined (keep t D)) ≤ suc (length D)) × (Begins c (joined (keep t D)) ⊎ (2 * length (joined (keep t D)) ≤ length D))
unfolding between keep joined
half t c [] = (omega arith, inr (omega arith))
half t c (d ∷ cs) = go (t (c, d)) refl (half t d cs)
  where
    D : List Range
    D = between (d ∷ cs)

    go : (b : Bool) → t (c, d) ≡ b
        → (2 * length (joined (keep t D)) ≤ suc (length D)) × (Begins d (joined (keep t D)) ⊎ (2 * length (joined (keep t D)) ≤ length D))
        → (2 * length (joined (keep t ((c, d) ∷ D))) ≤ suc (suc (length D)))
        × (Begins c (joined (keep t ((c, d) ∷ D))) ⊎ (2 * length (joined (keep t ((c, d) ∷ D))) ≤ suc (length D)))
    go false e ih = rw (e, keep) (omega (arith, ih.0), inr ih.0)
    go true e ih = rw (e, keep) (runs ih.1, inl (glue-begins (c, d) (joined (keep t D))))
      where
        runs : Begins d (joined (keep t D)) ⊎ (2 * length (joined (keep t D)) ≤ length D) → 2 * length (glue (c, d) (joined (keep t D))) ≤ suc (suc (length D))
        runs (inl b) = omega (arith, glue-joins (c, d) (joined (keep t D)) b, ih.0)
        runs (inr l) = omega (arith, glue-more (c, d) (joined (keep t D)))

pub runs-half : (t : Range → Bool) (b : Range) (R : List Range) → 2 * length (joined (keep t (intervals b R))) ≤ suc (length (intervals b R))
unfolding intervals
runs-half t b R = go (cuts b R)
  where
    go : (cs : List ℕ) → 2 * length (joined (keep t (between cs))) ≤ suc (length (between cs))
    go [] = unfold between keep joined in omega arith
    go (c ∷ cs) = (half t c cs).0

-- ## How many cuts
pub length-between : (cs : List ℕ) → length (between cs) ≡ length cs - 1
unfolding between
length-between [] = refl
length-between (c ∷ []) = refl
length-between (c ∷ d ∷ cs) = omega (arith, length-between (d ∷ cs))

pub cut_at-count : (x : ℕ) (ys : List ℕ) → (length ys ≤ length (cut_at x ys)) × (length (cut_at x ys) ≤ suc (length ys))
unfolding cut_at
cut_at-count x [] = omega arith
cut_at-count x (y ∷ ys) = go (ltb x y) refl (eqb x y) refl (cut_at-count x ys)
  where
    go : (s : Bool) → ltb x y ≡ s → (t : Bool) → eqb x y ≡ t → (length ys ≤ length (cut_at x ys)) × (length (cut_at x ys) ≤ suc (length ys))
        → (suc (length ys) ≤ length (cut_at x (y ∷ ys))) × (length (cut_at x (y ∷ ys)) ≤ suc (suc (length ys)))
    go true e t f ih = rw (e, cut_at) (omega arith)
    go false e true f ih = rw (e, f, cut_at) (omega arith)
    go false e false f ih = rw (e, f, cut_at) (omega arith)

pub cuts-count : (b : Range) (R : List Range) → (2 ≤ length (cuts b R)) × (length (cuts b R) ≤ 2 + 2 * length R)
unfolding cuts
cuts-count b [] = omega arith
cuts-count b (r ∷ R) = omega (arith, cut_at-count r.0 (cut_at r.1 (cuts b R)), cut_at-count r.1 (cuts b R), cuts-count b R)

-- ## How many boxes
-- no dimension has more intervals than there are boxes
pub boxes-wide : (bs : List Range) (Rs : List (List Range)) → (1 ≤ size (boxes bs Rs)) × All (λ D. length D ≤ size (boxes bs Rs)) (boxes bs Rs)
unfolding boxes size intervals
boxes-wide [] Rs = (omega arith, tt)
boxes-wide (b ∷ bs) [] = (omega arith, tt)
boxes-wide (b ∷ bs) (R ∷ Rs) =
    let later = boxes-wide bs Rs in
    let one : 1 ≤ length (between (cuts b R)) = omega (arith, length-between (cuts b R), cuts-count b R) in
    let wide : length (between (cuts b R)) ≤ length (between (cuts b R)) * size (boxes bs Rs) =
    omega (arith, mul-le-mul_left (length (between (cuts b R))) later.0) in
    (omega (arith, wide, one), (wide, All-map (λ D l. omega (arith, l, mul-le-mul_right (size (boxes bs Rs)) one)) (boxes bs Rs) later.1))
