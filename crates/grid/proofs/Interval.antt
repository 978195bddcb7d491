-- Intervals as blocks of coordinates: rising ones lie apart, and their joined runs are the runs of their coordinates.
-- Rests on the laws of numbers.
use mathlib.Core.Path.{◌≡◌, refl, sym, ap, ◌∙◌}
use mathlib.Core.List.{List, [], ◌∷◌, ◌++◌, flat_map}
use mathlib.Core.Bool.{Bool, true, false}
use Prim.Native.Nat.{ℕ, zero, suc, ◌+◌, ◌-◌, ◌≤◌, ◌<◌}
use native.Mathlib.Omega.{arith}
use lib.Dec.{eqb}
use borrow.Author.Tests.{eq-eqb, ne_eqb}
use Rattle.laws.specs.Lists.{from, any_of, keep, All}
use Rattle.laws.proofs.Lists.{All-map₂}
use Rattle.laws.proofs.Numbers.{from-below, from-above, from-inside, All-from}
use Rattle.grid.specs.Cut.{Range, same_range, glue, runs, joined}
use Rattle.grid.proofs.Image.{In, Apart}

-- the coordinates of an interval, one at least
abbrev pub block : Range → List ℕ
block i = i.0 ∷ from (suc i.0) (i.1 - suc i.0)

-- rising intervals, from lo on
abbrev pub Rising : ℕ → List Range → Type 0
Rising lo [] = Unit {0}
Rising lo (i ∷ D) = (lo ≤ i.0) × (i.0 < i.1) × Rising i.1 D

module _ (i : Range) (up : i.0 < i.1) where
  pub block-all : (P : ℕ → Type 0) → ((b : ℕ) → i.0 ≤ b → b < i.1 → P b) → All P (block i)
  block-all P h = (h i.0 (omega arith) (omega arith), All-from P (suc i.0) (i.1 - suc i.0) (λ b l k. h b (omega arith) (omega arith)))

  pub block_in : (b : ℕ) → i.0 ≤ b → b < i.1 → any_of (eqb b) (block i) ≡ true
  unfolding from
  block_in b l k = from-inside b i.0 (suc (i.1 - suc i.0)) l (omega arith)

  pub block-low : (b : ℕ) → b < i.0 → any_of (eqb b) (block i) ≡ false
  unfolding from
  block-low b l = from-below b i.0 (suc (i.1 - suc i.0)) l

  pub block-high : (b : ℕ) → i.1 ≤ b → any_of (eqb b) (block i) ≡ false
  unfolding from
  block-high b l = from-above b i.0 (suc (i.1 - suc i.0)) (omega arith)

self : (i : Range) → same_range i i ≡ true
self i = rw (eq-eqb i.0 i.0 refl) (eq-eqb i.1 i.1 refl)

differ : (i j : Range) → (i.0 ≡ j.0 → ⊥) → same_range i j ≡ false
differ i j h = rw (ne_eqb i.0 j.0 h)

-- a coordinate below all blocks is in none
below : (lo : ℕ) (D : List Range) (a : Range) (b : ℕ) → Rising lo D → a.0 < lo → b < lo → In block same_range eqb D a b
below lo [] a b r h k = tt
below lo (c ∷ D) a b r h k =
    (differ a c (omega arith) ∙ sym (block-low c r.1 b (omega arith)), below c.1 D a b r.2 (omega arith) (omega arith))

above : (hi : ℕ) (D : List Range) (c : Range) → Rising hi D → c.0 < c.1 → c.1 ≤ hi
    → All (λ a. All (λ b. same_range a c ≡ any_of (eqb b) (block c)) (block a)) D
above hi [] c r u l = tt
above hi (a ∷ D) c r u l = (
  block-all a r.1 (λ b. same_range a c ≡ any_of (eqb b) (block c)) (λ b k m. differ a c (omega arith) ∙ sym (block-high c u b (omega arith))),
  above a.1 D c r.2 u (omega arith),
)

pub rising-apart : (lo : ℕ) (D : List Range) → Rising lo D → Apart block same_range eqb D
rising-apart lo [] r = tt
rising-apart lo (c ∷ D) r = (
  block-all c r.1 (In block same_range eqb (c ∷ D) c) (λ b k m. (self c ∙ sym (block_in c r.1 b k m), below c.1 D c b r.2 r.1 m)),
  All-map₂ (λ a. All-map₂ (λ b. both a b) (block a)) D (above c.1 D c r.2 r.1 (omega arith)) (rising-apart c.1 D r.2),
)
  where
    both : (a : Range) (b : ℕ) → same_range a c ≡ any_of (eqb b) (block c) → In block same_range eqb D a b → In block same_range eqb (c ∷ D) a b
    both a b h k = (h, k)

pub rising-from : (lo hi : ℕ) (D : List Range) → lo ≤ hi → Rising hi D → Rising lo D
rising-from lo hi [] l r = tt
rising-from lo hi (i ∷ D) l r = (omega arith, r.1, r.2)

pub rising-keep : (t : Range → Bool) (lo : ℕ) (D : List Range) → Rising lo D → Rising lo (keep t D)
unfolding keep
rising-keep t lo [] r = tt
rising-keep t lo (i ∷ D) r = go (t i) refl (rising-keep t i.1 D r.2)
  where
    go : (b : Bool) → t i ≡ b → Rising i.1 (keep t D) → Rising lo (keep t (i ∷ D))
    go true e ih = rw (e, keep) (r.0, r.1, ih)
    go false e ih = rw (e, keep) (rising-from lo i.1 (keep t D) (omega arith) ih)

-- ## Maximal runs
glue-glue : (x e : ℕ) (rs : List Range) → glue (x, suc x) (glue (suc x, e) rs) ≡ glue (x, e) rs
unfolding glue
glue-glue x e [] = rw (eq-eqb (suc x) (suc x) refl, glue)
glue-glue x e (j ∷ rs) = go (eqb e j.0) refl
  where
    go : (b : Bool) → eqb e j.0 ≡ b → glue (x, suc x) (glue (suc x, e) (j ∷ rs)) ≡ glue (x, e) (j ∷ rs)
    go true q = rw (q, glue, eq-eqb (suc x) (suc x) refl)
    go false q = rw (q, glue, eq-eqb (suc x) (suc x) refl)

runs-from : (s n e : ℕ) (ys : List ℕ) → suc s + n ≡ e → runs (s ∷ from (suc s) n ++ ys) ≡ glue (s, e) (runs ys)
unfolding runs from
runs-from s zero e ys q = ap (λ x. glue (s, x) (runs ys)) (omega arith)
runs-from s (suc n) e ys q = ap (glue (s, suc s)) (runs-from (suc s) n e ys (omega arith)) ∙ glue-glue s e (runs ys)

-- the runs of the coordinates are the intervals, joined
pub runs-joined : (lo : ℕ) (D : List Range) → Rising lo D → runs (flat_map block D) ≡ joined D
unfolding runs joined flat_map
runs-joined lo [] r = refl
runs-joined lo (i ∷ D) r = runs-from i.0 (i.1 - suc i.0) i.1 (flat_map block D) (omega arith) ∙ ap (glue i) (runs-joined i.1 D r.2)
