-- THE COVERED BOXES: those whose first point some combination of one range per dimension covers. Rests on the laws of numbered columns.
use mathlib.Core.Path.{◌≡◌, refl, sym, ap, ap₂, subst, ◌∙◌}
use mathlib.Core.Bool.{Bool, true, false, ◌&&◌, ◌||◌, cond, not, false≢true}
use mathlib.Core.List.{List, [], ◌∷◌, map, flat_map}
use Prim.Native.Nat.{ℕ, zero, suc, ◌+◌, ◌*◌, ◌<◌}
use native.Mathlib.Omega.{arith}
use native.Mathlib.Nat.{mul-pos}
use lib.Dec.{eqb}
use lib.ListN.{get_or}
use borrow.Author.Tests.{eq-eqb, ne_eqb, eqb-true}
use Rattle.laws.specs.Lists.{from, count, any_of, Mem}
use Rattle.laws.proofs.Flags.{split-and, both-and, same_flag_lem}
use Rattle.laws.proofs.Lists.{any-map, any_of-append, All-Mem, some-any, any_some}
use Rattle.laws.proofs.Numbers.{All-from, Mem-from}
use Rattle.grid.specs.Cut.{holds}
use Rattle.paving.proofs.Room.{number-eq}
use Rattle.definition.specs.Point.{combinations}
use Rattle.tables.specs.Cuts.{cut_of}
use Rattle.tables.specs.Ranges.{range_of, selector_of}
use Rattle.tables.specs.Lists.{Within, box_of, start_of}
use Rattle.tables.proofs.Ranges.{any-count}
use Rattle.draw_rule.specs.Update.{covered, over_columns, leaves, covered_box}

any-spread : (t : ℕ → Bool) (f : ℕ → List ℕ) (xs : List ℕ) → any_of t (flat_map f xs) ≡ any_of (λ x. any_of t (f x)) xs
unfolding any_of flat_map
any-spread t f [] = refl
any-spread t f (x ∷ xs) = any_of-append t (f x) (flat_map f xs) ∙ ap (any_of t (f x) ||◌) (any-spread t f xs)

-- a product is some where both are
some-product : (a b : ℕ) → not (eqb (a * b) 0) ≡ not (eqb a 0) && not (eqb b 0)
some-product zero b = let z : 0 * b ≡ 0 = omega arith in ap (λ n. not (eqb n 0)) z
some-product (suc a) b = rw (ne_eqb (suc a) 0 (omega arith)) (ap not (same b))
  where
    same : (b : ℕ) → eqb (suc a * b) 0 ≡ eqb b 0
    same zero = let z : suc a * 0 ≡ 0 = omega arith in ap (λ n. eqb n 0) z
    same (suc b) = let h : 0 < suc a * suc b = mul-pos (omega arith) (omega arith) in ne_eqb (suc a * suc b) 0 (omega arith) ∙ sym (ne_eqb (suc b) 0 (omega arith))

-- a box is told by its number
box-same : (sizes : List ℕ) (l c d : ℕ) (p q : List ℕ) → Within sizes l p → Within sizes l q → box_of sizes l c p ≡ box_of sizes l d q → (c ≡ d) × (p ≡ q)
unfolding box_of
box-same sizes zero c d [] [] v w e = (e, refl)
box-same sizes zero c d (x ∷ p) q v w e = absurd v
box-same sizes zero c d [] (y ∷ q) v w e = absurd w
box-same sizes (suc i) c d [] q v w e = absurd v
box-same sizes (suc i) c d (x ∷ p) [] v w e = absurd w
box-same sizes (suc i) c d (x ∷ p) (y ∷ q) v w e =
    let m = get_or sizes i 0 in
    let r = box-same sizes i (c * m + x) (d * m + y) p q v.1 w.1 e in
    let s = split-and (eqb c d) (eqb x y) (sym (number-eq m c d x y v.0 w.0) ∙ eq-eqb (c * m + x) (d * m + y) r.0) in
    (eqb-true c d s.0, ap₂ ◌∷◌ (eqb-true x y s.1) r.1)

module _ (sizes counts rows cuts ranges : List ℕ) where
  -- does some combination cover the first point of a box?
  abbrev hit : ℕ → List ℕ → Bool
  hit l p = not (eqb (combinations (selector_of counts ranges l) (start_of rows cuts l p)) 0)

  hit-none : hit 0 [] ≡ true
  unfolding selector_of start_of combinations
  hit-none = refl

  hit-next : (i x : ℕ) (p : List ℕ) → hit (suc i) (x ∷ p) ≡ any_of (λ q. covered rows cuts ranges i q x) (from 0 (get_or counts i 0)) && hit i p
  unfolding selector_of start_of combinations covered
  hit-next i x p =
      let R = map (range_of ranges i) (from 0 (get_or counts i 0)) in
      some-product (count (holds (cut_of rows cuts i x)) R) (combinations (selector_of counts ranges i) (start_of rows cuts i p))
      ∙ ap (◌&& hit i p) (sym (any-count (holds (cut_of rows cuts i x)) R) ∙ any-map (holds (cut_of rows cuts i x)) (range_of ranges i) (from 0 (get_or counts i 0)))

  -- what lies below a column, if the range covers it
  abbrev column : ℕ → ℕ → ℕ → ℕ → List ℕ
  column i c q y = cond (covered rows cuts ranges i q y) (leaves sizes counts rows cuts ranges i (c * get_or sizes i 0 + y)) []

  -- each covered box is one of the boxes below its node, and hit
  pub leaf-box : (l c m : ℕ) → any_of (eqb m) (leaves sizes counts rows cuts ranges l c) ≡ true → (p : List ℕ) × Within sizes l p × (box_of sizes l c p ≡ m) × (hit l p ≡ true)
  unfolding leaves box_of over_columns any_of
  leaf-box zero c m h = ([], tt, sym (eqb-true m c (only (eqb m c) h)), hit-none)
    where
      only : (b : Bool) → b || false ≡ true → b ≡ true
      only true e = refl
      only false e = e
  leaf-box (suc i) c m h =
      let q = any_some (λ q. any_of (eqb m) (over_columns sizes counts rows cuts ranges i (leaves sizes counts rows cuts ranges i) c q)) (from 0 (get_or counts i 0)) (sym (any-spread (eqb m) _ (from 0 (get_or counts i 0))) ∙ h) in
      let y = any_some (λ y. any_of (eqb m) (column i c q.0 y)) (from 0 (get_or sizes i 0)) (sym (any-spread (eqb m) (column i c q.0) (from 0 (get_or sizes i 0))) ∙ q.2) in
      go q.0 q.1 y.0 (All-Mem (λ y. y < get_or sizes i 0) (from 0 (get_or sizes i 0)) (All-from _ 0 (get_or sizes i 0) (λ b _ l. omega arith)) y.0 y.1) (leaf-box i (c * get_or sizes i 0 + y.0) m)
      (covered rows cuts ranges i q.0 y.0) refl y.2
    where
      go : (q : ℕ) → Mem q (from 0 (get_or counts i 0)) → (y : ℕ) → y < get_or sizes i 0
          → (any_of (eqb m) (leaves sizes counts rows cuts ranges i (c * get_or sizes i 0 + y)) ≡ true → (p : List ℕ) × Within sizes i p × (box_of sizes i (c * get_or sizes i 0 + y) p ≡ m) × (hit i p ≡ true))
          → (b : Bool) → covered rows cuts ranges i q y ≡ b → any_of (eqb m) (cond b (leaves sizes counts rows cuts ranges i (c * get_or sizes i 0 + y)) []) ≡ true
          → (p : List ℕ) × Within sizes (suc i) p × (box_of sizes (suc i) c p ≡ m) × (hit (suc i) p ≡ true)
      go q k y l ih true e h =
          let r = ih h in
          (y ∷ r.0, (l, r.1), r.2, hit-next i y r.0 ∙ both-and _ _ (some-any (λ q. covered rows cuts ranges i q y) q (from 0 (get_or counts i 0)) k e) r.3)
      go q k y l ih false e h = absurd (false≢true h)

  -- each box that is hit is covered
  box-leaf : (l c : ℕ) (p : List ℕ) → Within sizes l p → hit l p ≡ true → any_of (eqb (box_of sizes l c p)) (leaves sizes counts rows cuts ranges l c) ≡ true
  unfolding leaves box_of over_columns any_of
  box-leaf zero c [] w h = rw (eq-eqb c c refl)
  box-leaf zero c (x ∷ p) w h = absurd w
  box-leaf (suc i) c [] w h = absurd w
  box-leaf (suc i) c (x ∷ p) w h =
      let N = box_of sizes i (c * get_or sizes i 0 + x) p in
      let s = split-and _ _ (sym (hit-next i x p) ∙ h) in
      let q = any_some (λ q. covered rows cuts ranges i q x) (from 0 (get_or counts i 0)) s.0 in
      any-spread (eqb N) _ (from 0 (get_or counts i 0))
      ∙ some-any _ q.0 (from 0 (get_or counts i 0)) q.1
      (any-spread (eqb N) (column i c q.0) (from 0 (get_or sizes i 0))
      ∙ some-any (λ y. any_of (eqb N) (column i c q.0 y)) x (from 0 (get_or sizes i 0)) (Mem-from x 0 (get_or sizes i 0) (omega arith) (omega (arith, w.0)))
      (rw q.2 (box-leaf i (c * get_or sizes i 0 + x) p w.1 s.1)))

  -- A COVERED BOX is one whose first point some combination of ranges covers
  pub box-covered : (p : List ℕ) → Within sizes 4 p → covered_box sizes counts rows cuts ranges (box_of sizes 4 0 p) ≡ hit 4 p
  unfolding covered_box
  box-covered p w =
      same_flag_lem _ _ (λ h. let r = leaf-box 4 0 (box_of sizes 4 0 p) h in subst (λ q. hit 4 q ≡ true) (box-same sizes 4 0 0 r.0 p r.1 w r.2).1 r.3) (box-leaf 4 0 p w)
