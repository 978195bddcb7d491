-- THE ITEMS OF A SET COVER ITS COORDINATES, each once, and no others of the dimension: its maximal runs rise, an item splits to the run that
-- it was written from, and no items at all stand for the whole dimension.
use mathlib.Core.Path.{◌≡◌, refl, sym, ap, ap₂, ◌∙◌, subst}
use mathlib.Core.List.{List, [], ◌∷◌, ◌++◌, map, flat_map}
use mathlib.Core.Bool.{Bool, true, false, ◌&&◌, ◌||◌, cond}
use Prim.Native.Nat.{ℕ, zero, suc, ◌+◌, ◌-◌, ◌≤◌, ◌<◌}
use native.Mathlib.Omega.{arith}
use lib.Dec.{eqb}
use borrow.Author.Tests.{eqb-true, eqb-false, lt-ltb}
use Rattle.laws.specs.Lists.{from, any_of, count, keep, Filled}
use Rattle.laws.proofs.Flags.{split-and, same_flag_lem, not-true}
use Rattle.grid.specs.Cut.{Range, holds, coordinates, glue, runs}
use Rattle.grid.proofs.Interval.{Rising}
use Rattle.grid.proofs.Cut.{Climb, holds-in, in-holds}
use Rattle.definition.specs.Range.{split, ranges}
use Rattle.definition.specs.Group.{items_of}

-- ## Runs of a rising list
glue-rising : (lo x : ℕ) (rs : List Range) → lo ≤ x → Rising (suc x) rs → Rising lo (glue (x, suc x) rs)
unfolding glue
glue-rising lo x [] l r = (l, omega arith, tt)
glue-rising lo x (j ∷ rs) l r = go (eqb (suc x) j.0) refl
  where
    go : (b : Bool) → eqb (suc x) j.0 ≡ b → Rising lo (glue (x, suc x) (j ∷ rs))
    go true e = rw (e, glue) (l, omega (arith, eqb-true (suc x) j.0 e, r.1), r.2)
    go false e = rw (e, glue) (l, omega arith, r)

pub runs-rising : (lo : ℕ) (E : List ℕ) → Climb lo E → Rising lo (runs E)
unfolding runs
runs-rising lo [] c = tt
runs-rising lo (x ∷ E) c = glue-rising lo x (runs E) c.0 (runs-rising (suc x) E c.1)

module _ (m : ℕ) where
  before : (r : Range) → m < r.0 → holds m r ≡ false
  before r l = not-true (holds m r) (λ t. let k = holds-in m r t in absurd (omega arith))

  -- a range from x on has x and what the range from the next one on has
  longer : (x e : ℕ) → x < e → cond (holds m (x, e)) 1 0 ≡ cond (eqb m x) 1 0 + cond (holds m (suc x, e)) 1 0
  longer x e l = go (eqb m x) refl
    where
      go : (b : Bool) → eqb m x ≡ b → cond (holds m (x, e)) 1 0 ≡ cond (eqb m x) 1 0 + cond (holds m (suc x, e)) 1 0
      go true q = let k = eqb-true m x q in rw (q, in-holds m (x, e) (omega arith) (omega arith), before (suc x, e) (omega arith))
      go false q =
          let k = eqb-false m x q in
          let s : holds m (x, e) ≡ holds m (suc x, e) = same_flag_lem (holds m (x, e)) (holds m (suc x, e))
          (λ t. let h = holds-in m (x, e) t in in-holds m (suc x, e) (omega arith) (omega arith))
          (λ t. let h = holds-in m (suc x, e) t in in-holds m (x, e) (omega arith) (omega arith))
          in
          rw (q, s) (omega arith)

  empty-range : (x : ℕ) → ◌≡◌ {A = ℕ} (cond (holds m (x, x)) 1 0) 0
  empty-range x = ap (λ b. cond b 1 0) (not-true (holds m (x, x)) (λ t. let k = holds-in m (x, x) t in absurd (omega arith)))

  glue-count : (x : ℕ) (rs : List Range) → Rising (suc x) rs → count (holds m) (glue (x, suc x) rs) ≡ cond (eqb m x) 1 0 + count (holds m) rs
  unfolding glue count
  glue-count x [] r = omega (arith, longer x (suc x) (omega arith), empty-range (suc x))
  glue-count x (j ∷ rs) r = go (eqb (suc x) j.0) refl
    where
      go : (b : Bool) → eqb (suc x) j.0 ≡ b → count (holds m) (glue (x, suc x) (j ∷ rs)) ≡ cond (eqb m x) 1 0 + (cond (holds m j) 1 0 + count (holds m) rs)
      go true e =
          let k = eqb-true (suc x) j.0 e in
          rw (e, glue) (omega (arith, longer x j.1 (omega (arith, r.1)), ap {B = ℕ} (λ z. cond (holds m (z, j.1)) 1 0) k))
      go false e = rw (e, glue) (omega (arith, longer x (suc x) (omega arith), empty-range (suc x)))

  later-count : (lo : ℕ) (E : List ℕ) → Climb lo E → m < lo → count (eqb m) E ≡ 0
  unfolding count
  later-count lo [] c l = refl
  later-count lo (x ∷ E) c l = rw (eqb-differs) (omega (arith, later-count (suc x) E c.1 (omega arith)))
    where
      eqb-differs : eqb m x ≡ false
      eqb-differs = not-true (eqb m x) (λ t. absurd (omega (arith, eqb-true m x t, c.0)))

  -- a rising list has a coordinate once or not at all
  climb-count : (lo : ℕ) (E : List ℕ) → Climb lo E → count (eqb m) E ≡ cond (any_of (eqb m) E) 1 0
  unfolding count any_of
  climb-count lo [] c = refl
  climb-count lo (x ∷ E) c = go (eqb m x) refl (climb-count (suc x) E c.1)
    where
      go : (b : Bool) → eqb m x ≡ b → count (eqb m) E ≡ cond (any_of (eqb m) E) 1 0 → cond b 1 0 + count (eqb m) E ≡ cond (b || any_of (eqb m) E) 1 0
      go true e ih = omega (arith, later-count (suc x) E c.1 (omega (arith, eqb-true m x e)))
      go false e ih = omega (arith, ih)

  runs-count : (lo : ℕ) (E : List ℕ) → Climb lo E → count (holds m) (runs E) ≡ count (eqb m) E
  unfolding runs count
  runs-count lo [] c = refl
  runs-count lo (x ∷ E) c = omega (arith, glue-count x (runs E) (runs-rising (suc x) E c.1), runs-count (suc x) E c.1)

-- ## Items
-- an item splits to its run
run-split : (b q : Range) → q.0 < q.1 → split b (q.0, q.1 - 1) ≡ q ∷ []
unfolding split
run-split b q h = let k : suc (q.1 - 1) ≡ q.1 = omega arith in rw (lt-ltb q.0 (suc (q.1 - 1)) (omega arith), split) (ap (λ z. (q.0, z) ∷ []) k)

runs-split : (b : Range) (lo : ℕ) (rs : List Range) → Rising lo rs → flat_map (split b) (map (λ q. (q.0, q.1 - 1)) rs) ≡ rs
unfolding flat_map
runs-split b lo [] r = refl
runs-split b lo (q ∷ rs) r = ap₂ ◌++◌ (run-split b q r.1) (runs-split b q.1 rs r.2)

-- the coordinates of a dimension that pass a test rise
pub kept-climb : (t : ℕ → Bool) (s n : ℕ) → Climb s (keep t (from s n))
unfolding keep from
kept-climb t s zero = tt
kept-climb t s (suc n) = go (t s) refl (kept-climb t (suc s) n)
  where
    weaken : (E : List ℕ) → Climb (suc s) E → Climb s E
    weaken [] c = tt
    weaken (x ∷ E) c = (omega (arith, c.0), c.1)

    go : (b : Bool) → t s ≡ b → Climb (suc s) (keep t (from (suc s) n)) → Climb s (keep t (from s (suc n)))
    go true e ih = rw (e, keep) (omega arith, ih)
    go false e ih = rw (e, keep) (weaken (keep t (from (suc s) n)) ih)

runs-filled : (E : List ℕ) → Filled E → Filled (runs E)
unfolding runs glue
runs-filled [] h = h
runs-filled (x ∷ E) h = go (runs E)
  where
    go : (rs : List Range) → Filled (glue (x, suc x) rs)
    go [] = tt
    go (j ∷ rs) = pick (eqb (suc x) j.0) refl
      where
        pick : (b : Bool) → eqb (suc x) j.0 ≡ b → Filled (glue (x, suc x) (j ∷ rs))
        pick true e = rw (e, glue) tt
        pick false e = rw (e, glue) tt

-- THE LAW
pub items-count : (b : Range) (t : ℕ → Bool) (x : ℕ) → holds x b ≡ true → Filled (keep t (coordinates b))
    → count (holds x) (ranges b (items_of b (runs (keep t (coordinates b))))) ≡ cond (any_of (eqb x) (keep t (coordinates b))) 1 0
unfolding items_of ranges count
items-count b t x h full = go (runs E) refl (runs-rising b.0 E climb)
  where
    E : List ℕ
    E = keep t (coordinates b)

    climb : Climb b.0 E
    climb = kept-climb t b.0 (b.1 - b.0)

    once : count (holds x) (runs E) ≡ cond (any_of (eqb x) E) 1 0
    once = runs-count x b.0 E climb ∙ climb-count x b.0 E climb

    go : (rs : List Range) → runs E ≡ rs → Rising b.0 rs → count (holds x) (ranges b (items_of b rs)) ≡ cond (any_of (eqb x) E) 1 0
    go [] e r = absurd (subst Filled e (runs-filled E full))
    go (q ∷ rs) e r = pick (eqb q.0 b.0 && eqb q.1 b.1) refl
      where
        pick : (v : Bool) → eqb q.0 b.0 && eqb q.1 b.1 ≡ v → count (holds x) (ranges b (items_of b (q ∷ rs))) ≡ cond (any_of (eqb x) E) 1 0
        pick true k = rw (k, items_of, h) (all (any_of (eqb x) E) (sym once ∙ ap (count (holds x)) e))
          where
            ends : (eqb q.0 b.0 ≡ true) × (eqb q.1 b.1 ≡ true)
            ends = split-and (eqb q.0 b.0) (eqb q.1 b.1) k

            first : holds x q ≡ true
            first = let z = holds-in x b h in
                in-holds x q (omega (arith, eqb-true q.0 b.0 ends.0, z)) (omega (arith, eqb-true q.1 b.1 ends.1, z))

            all : (a : Bool) → cond a 1 0 ≡ cond (holds x q) 1 0 + count (holds x) rs → 1 + 0 ≡ cond a 1 0
            all true s = refl
            all false s = absurd (omega (arith, s, ap {B = ℕ} (λ f. cond f 1 0) first))
        pick false k = rw (k, items_of) (ap (count (holds x)) (runs-split b b.0 (q ∷ rs) r ∙ sym e) ∙ once)
