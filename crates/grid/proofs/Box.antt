-- POINTS ARE BOXES. For any bounds and any ranges between them, the groups over all points of a map that goes by the ranges' marks
-- are the groups over the boxes between their cuts. Rests on the compression law and on the cuts' laws.
use mathlib.Core.Path.{◌≡◌, refl, sym, ap, ap₂, ◌∙◌}
use mathlib.Core.List.{List, [], ◌∷◌, map}
use mathlib.Core.Bool.{Bool, false}
use Prim.Native.Nat.{ℕ, ◌<◌}
use lib.Dec.{eqb}
use Rattle.laws.specs.Lists.{All}
use Rattle.laws.specs.Tests.{Exact}
use Rattle.laws.proofs.Lists.{All-map}
use Rattle.laws.proofs.Tests.{exact-eqb, exact-pair}
use Rattle.grid.specs.Group.{Set, Map, at, Group, somewhere, groups}
use Rattle.grid.specs.Cut.{Range, same_range, coordinates, intervals, boxes, starts, runs, joined, as_runs, as_joined}
use Rattle.grid.proofs.Part.{Part, groups-part}
use Rattle.grid.proofs.Image.{Constants, Fills, Aparts, fines, image, Tests, groups-image, somewhere-image}
use Rattle.grid.proofs.Interval.{block, rising-apart, rising-keep, runs-joined}
use Rattle.grid.proofs.Cut.{Inside, Marks, intervals-rise, intervals-all, intervals-marks}

-- in each dimension the lowest coordinate lies below the upper bound
abbrev pub Proper : List Range → Type 0
Proper = All (λ b. b.0 < b.1)

-- each dimension has its list of ranges, and they lie between the bounds
abbrev pub Within : List Range → List (List Range) → Type 0
Within [] Rs = Unit {0}
Within (b ∷ bs) [] = ⊥
Within (b ∷ bs) (R ∷ Rs) = All (Inside b) R × Within bs Rs

-- two points that the same ranges hold, dimension by dimension
abbrev pub SameMarks : List (List Range) → List ℕ → List ℕ → Type 0
SameMarks [] p q = Unit {0}
SameMarks (R ∷ Rs) [] [] = Unit {0}
SameMarks (R ∷ Rs) [] (y ∷ q) = ⊥
SameMarks (R ∷ Rs) (x ∷ p) [] = ⊥
SameMarks (R ∷ Rs) (x ∷ p) (y ∷ q) = Marks R x y × SameMarks Rs p q

-- the same value at points with the same marks
abbrev pub ByMarks : {W : Type 0} → List (List Range) → Map ℕ W → Type 0
ByMarks Rs f = (p q : List ℕ) → SameMarks Rs p q → f p ≡ f q

abbrev blocks : List Range → List (Range → List ℕ)
blocks = map (λ b. block)

blocks-fill : (bs : List Range) → Fills (blocks bs)
blocks-fill [] = tt
blocks-fill (b ∷ bs) = (λ i. tt, blocks-fill bs)

boxes-all : (bs : List Range) → Proper bs → (Rs : List (List Range)) → Within bs Rs → fines (blocks bs) (boxes bs Rs) ≡ map coordinates bs
unfolding boxes
boxes-all [] o Rs w = refl
boxes-all (b ∷ bs) o [] w = absurd w
boxes-all (b ∷ bs) o (R ∷ Rs) w = ap₂ ◌∷◌ (intervals-all b o.0 R w.0) (boxes-all bs o.1 Rs w.1)

boxes-apart : (bs : List Range) → Proper bs → (Rs : List (List Range)) → Within bs Rs → Aparts same_range eqb (blocks bs) (boxes bs Rs)
unfolding boxes
boxes-apart [] o Rs w = tt
boxes-apart (b ∷ bs) o [] w = absurd w
boxes-apart (b ∷ bs) o (R ∷ Rs) w = (rising-apart b.0 (intervals b R) (intervals-rise b o.0 R w.0), boxes-apart bs o.1 Rs w.1)

no-marks : (Rs : List (List Range)) → SameMarks Rs [] []
no-marks [] = tt
no-marks (R ∷ Rs) = tt

-- a map that goes by marks is constant on the boxes
constant : {W : Type 0} (bs : List Range) → Proper bs → (Rs : List (List Range)) → Within bs Rs → (f g : Map ℕ W)
    → ((p q : List ℕ) → SameMarks Rs p q → f p ≡ g q) → Constants (λ v. v) (blocks bs) (boxes bs Rs) (λ is. f (starts is)) g
unfolding boxes
constant [] o Rs w f g h = h [] [] (no-marks Rs)
constant (b ∷ bs) o [] w f g h = absurd w
constant (b ∷ bs) o (R ∷ Rs) w f g h =
    All-map (λ i. All-map (λ x m. constant bs o.1 Rs w.1 (at f i.0) (at g x) (λ p q s. h (i.0 ∷ p) (x ∷ q) (m, s))) (block i)) (intervals b R)
    (intervals-marks b o.0 R w.0)

module _ (bs : List Range) (o : Proper bs) (Rs : List (List Range)) (w : Within bs Rs) where
  -- some point passes just where some box does
  pub somewhere-boxes : (t : Map ℕ Bool) → ByMarks Rs t → somewhere (map coordinates bs) t ≡ somewhere (boxes bs Rs) (λ is. t (starts is))
  somewhere-boxes t h =
      ap (λ Ds. somewhere Ds t) (sym (boxes-all bs o Rs w))
      ∙ sym (somewhere-image (blocks bs) (blocks-fill bs) (boxes bs Rs) (λ is. t (starts is)) t (constant bs o Rs w t t h))

  module _ {W : Type 0} {eq : W → W → Bool} (exact : Exact eq) (empty : W) (oks : List (W → Bool)) (un : All (λ ok. ok empty ≡ false) oks)
      (f : Map ℕ W) (h : ByMarks Rs f) where
    -- the groups of boxes, seen as points, are the groups of points
    groups-points : map (image (λ v. v) (blocks bs)) (groups eq same_range empty oks (boxes bs Rs) (λ is. f (starts is)))
        ≡ groups eq eqb empty oks (map coordinates bs) f
    groups-points =
        groups-image (λ v. v) (λ v. Unit {0}) eq eq (λ u v pu pv. refl) same_range eqb empty empty refl tt (blocks bs) (blocks-fill bs) (boxes bs Rs)
        (boxes-apart bs o Rs w) exact (exact-pair exact-eqb exact-eqb) oks oks (tests oks un) (λ is. f (starts is)) f (λ p. tt) (constant bs o Rs w f f h)
        ∙ ap (λ Ds. groups eq eqb empty oks Ds f) (boxes-all bs o Rs w)
      where
        tests : (os : List (W → Bool)) → All (λ ok. ok empty ≡ false) os
            → Tests (λ v. v) (λ v. Unit {0}) eq eq (λ u v pu pv. refl) same_range eqb empty empty refl tt (blocks bs) (blocks-fill bs) (boxes bs Rs)
            (boxes-apart bs o Rs w) os os
        tests [] u = tt
        tests (ok ∷ os) u = (λ v p. refl, u.0, tests os u.1)

    part-runs : (cs : List Range) → Proper cs → (Qs : List (List Range)) → Within cs Qs → (S : Set Range) → Part (boxes cs Qs) S
        → map runs (fines (blocks cs) S) ≡ map joined S
    unfolding boxes
    part-runs [] p Qs v [] k = refl
    part-runs [] p Qs v (E ∷ S) k = absurd k
    part-runs (c ∷ cs) p [] v S k = absurd v
    part-runs (c ∷ cs) p (Q ∷ Qs) v [] k = absurd k
    part-runs (c ∷ cs) p (Q ∷ Qs) v (E ∷ S) k =
        ap₂ ◌∷◌ (runs-joined c.0 E (rw k.0.1 (rising-keep k.0.0 c.0 (intervals c Q) (intervals-rise c p.0 Q v.0))))
        (part-runs cs p.1 Qs v.1 S k.1)

    -- THE LAW, with sets as maximal runs
    pub groups-boxes : map as_runs (groups eq eqb empty oks (map coordinates bs) f)
        ≡ map as_joined (groups eq same_range empty oks (boxes bs Rs) (λ is. f (starts is)))
    groups-boxes =
        ap (map as_runs) (sym groups-points) ∙ each (groups eq same_range empty oks (boxes bs Rs) (λ is. f (starts is)))
        (groups-part eq same_range empty (boxes bs Rs) oks (λ is. f (starts is)))
      where
        each : (gs : List (Group Range W)) → All (λ g. Part (boxes bs Rs) g.1) gs → map as_runs (map (image (λ v. v) (blocks bs)) gs) ≡ map as_joined gs
        each [] p = refl
        each (g ∷ gs) p = ap₂ ◌∷◌ (ap (λ S. (g.0, S)) (part-runs bs o Rs w g.1 p.0)) (each gs p.1)
