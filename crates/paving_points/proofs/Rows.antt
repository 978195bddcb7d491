-- A row of cuts as intervals: it rises, has all coordinates of its dimension, and the points of an interval have its start's marks.
-- Rests on grid's laws of cuts.
use mathlib.Core.Path.{◌≡◌, refl, sym, ap, ap₂, ◌∙◌, subst}
use mathlib.Core.List.{List, [], ◌∷◌, map, flat_map}
use Prim.Native.Nat.{ℕ, zero, suc, ◌+◌, ◌-◌, ◌≤◌, ◌<◌}
use native.Mathlib.Omega.{arith}
use lib.ListN.{get_or}
use Rattle.laws.specs.Lists.{from, All}
use Rattle.laws.proofs.Lists.{All-each, image-All}
use Rattle.laws.proofs.Numbers.{from-All}
use Rattle.laws.proofs.Spread.{flat_map-map}
use Rattle.grid.specs.Cut.{Range, coordinates, cuts, between, intervals}
use Rattle.grid.proofs.Interval.{block, Rising}
use Rattle.grid.proofs.Number.{interval}
use Rattle.grid.proofs.Cut.{Inside, Marks, intervals-rise, intervals-all, intervals-marks}
use Rattle.tables.specs.Cuts.{cut_of, stretch, dimension_cuts, interval_at}

-- ## Intervals by number
rising-each : (lo : ℕ) (D : List Range) → Rising lo D → All (λ i. i.0 < i.1) D
rising-each lo [] h = tt
rising-each lo (i ∷ D) h = (h.1, rising-each i.1 D h.2)

-- the numbers of a stretch, two by two
between-numbers : (f : ℕ → ℕ) (s n : ℕ) → between (map f (from s (suc n))) ≡ map (λ x. (f x, f (suc x))) (from s n)
unfolding between from
between-numbers f s zero = refl
between-numbers f s (suc n) = ap ((f s, f (suc s)) ∷◌) (between-numbers f (suc s) n)

shifted : (f g : ℕ → Range) (p s n : ℕ) → ((x : ℕ) → f (p + x) ≡ g x) → map f (from (p + s) n) ≡ map g (from s n)
unfolding from
shifted f g p s zero h = refl
shifted f g p s (suc n) h = let e : suc (p + s) ≡ p + suc s = omega arith in ap₂ ◌∷◌ (h s) (ap (λ k. map f (from k n)) e ∙ shifted f g p (suc s) n h)

-- ## A row
module _ (rows sizes table : List ℕ) (i : ℕ) (b : Range) (proper : b.0 < b.1) (R : List Range) (inside : All (Inside b) R)
    (row : dimension_cuts rows sizes table i ≡ cuts b R) where
  -- interval x of the row
  abbrev at_row : ℕ → Range
  at_row = interval_at (cut_of rows table i)

  row-intervals : map at_row (from 0 (get_or sizes i 0)) ≡ intervals b R
  unfolding intervals dimension_cuts stretch cut_of
  row-intervals =
      let r = get_or rows i 0 in
      let n = get_or sizes i 0 in
      let e : suc n ≡ r + n + 1 - r = omega arith in
      let z : r ≡ r + 0 = omega arith in
      sym (shifted (λ k. (get_or table k 0, get_or table (suc k) 0)) at_row r 0 n (λ x. ap (λ k. (get_or table (r + x) 0, get_or table k 0)) (let q : suc (r + x) ≡ r + suc x = omega arith in q)))
      ∙ ap (λ k. map (λ k. (get_or table k 0, get_or table (suc k) 0)) (from k n)) (sym z) ∙ sym (between-numbers (λ k. get_or table k 0) r n)
      ∙ ap (λ m. between (map (λ k. get_or table k 0) (from r m))) e ∙ ap between row

  each : (P : Range → Type 0) → All P (intervals b R) → (x : ℕ) → x < get_or sizes i 0 → P (at_row x)
  each P h x l =
      from-All (λ x. P (at_row x)) 0 (get_or sizes i 0) (image-All P at_row (from 0 (get_or sizes i 0)) (subst (All P) (sym row-intervals) h)) x (omega arith) (omega arith)

  pub row-rises : (x : ℕ) → x < get_or sizes i 0 → cut_of rows table i x < cut_of rows table i (suc x)
  row-rises = each (λ i. i.0 < i.1) (rising-each b.0 (intervals b R) (intervals-rise b proper R inside))

  pub row-marks : (x : ℕ) → x < get_or sizes i 0 → (y : ℕ) → cut_of rows table i x ≤ y → y < cut_of rows table i (suc x) → Marks R (cut_of rows table i x) y
  unfolding from
  row-marks x l y lo hi =
      from-All (λ y. Marks R (cut_of rows table i x) y) (cut_of rows table i x) (suc (cut_of rows table i (suc x) - suc (cut_of rows table i x)))
      (each (λ i. All (λ y. Marks R i.0 y) (block i)) (intervals-marks b proper R inside) x l) y lo (omega arith)

  pub row-all : flat_map (interval (cut_of rows table i)) (from 0 (get_or sizes i 0)) ≡ coordinates b
  row-all =
      sym (flat_map-map block (interval (cut_of rows table i)) at_row (from 0 (get_or sizes i 0)) (All-each _ (λ x. refl) (from 0 (get_or sizes i 0))))
      ∙ ap (flat_map block) row-intervals ∙ intervals-all b proper R inside
