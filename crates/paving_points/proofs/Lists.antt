-- FROM THE LISTS OF BOXES TO THOSE OF POINTS, where each box has the list of indexes at its first point: some box's list passes a test just where some
-- point's does, and there are as many different ones over boxes as over points. Rests on the points of a box.
use mathlib.Core.Path.{◌≡◌, sym, ap, ◌∙◌}
use mathlib.Core.Bool.{Bool, ◌||◌}
use mathlib.Core.List.{List, map}
use Prim.Native.Nat.{ℕ, zero, suc, ◌+◌, ◌*◌}
use native.Mathlib.Nat.{add-mul, mul_assoc}
use native.Mathlib.Omega.{arith}
use lib.Dec.{eqb}
use lib.ListN.{length, get_or, take}
use Rattle.laws.specs.Lists.{from, any_of, filled, All}
use Rattle.laws.specs.Tests.{Exact, same_list}
use Rattle.laws.proofs.Flags.{or-false}
use Rattle.laws.proofs.Lists.{All-each, any_same, any-map, any_of-append, Mem-any, any-Mem}
use Rattle.laws.proofs.Numbers.{from-append}
use Rattle.laws.proofs.Tests.{exact-eqb, exact-list}
use Rattle.laws.proofs.Distinct.{distinct-same}
use Rattle.grid.specs.Group.{points_of, somewhere}
use Rattle.grid.proofs.Values.{any-points}
use Rattle.definition.specs.Rule.{Rule}
use Rattle.definition.specs.Point.{dimensions, points}
use Rattle.definition.specs.Lists.{indexes_at, distinct_lists, list_count}
use Rattle.definition.proofs.FoldBox.{indexes-marks}
use Rattle.definition.proofs.Lawful.{Lawful}
use Rattle.paving.specs.Grid.{size_of, axes}
use Rattle.tables.specs.Cuts.{cut_of, CutBy}
use Rattle.tables.specs.Lists.{Within, box_of, start_of}
use Rattle.paving_points.proofs.Boxes.{Under, somewhere-points, Bounded, lawful-bounded, cuts-rise, cuts-points, box-marks}

-- ## Boxes by their numbers and by their intervals
-- n rows of S numbers each, one behind the other, from row s on
any-rows : (t : ℕ → Bool) (a S s n : ℕ) → any_of t (from (a + s * S) (n * S)) ≡ any_of (λ x. any_of t (from (a + x * S) S)) (from s n)
unfolding any_of from
any-rows t a S s zero = ap (λ m. any_of t (from (a + s * S) m)) (let z : 0 * S ≡ 0 = omega arith in z)
any-rows t a S s (suc n) =
    let size : suc n * S ≡ S + n * S = omega arith in
    let next : a + s * S + S ≡ a + suc s * S = omega arith in
    ap (λ m. any_of t (from (a + s * S) m)) size ∙ ap (any_of t) (sym (from-append (a + s * S) S (n * S) (a + suc s * S) next))
    ∙ any_of-append t (from (a + s * S) S) (from (a + suc s * S) (n * S)) ∙ ap (any_of t (from (a + s * S) S) ||◌) (any-rows t a S (suc s) n)

any-box : (t : ℕ → Bool) (sizes : List ℕ) (l node : ℕ) → any_of t (from (node * size_of sizes l) (size_of sizes l)) ≡ somewhere (axes sizes l) (λ p. t (box_of sizes l node p))
unfolding any_of from size_of axes somewhere box_of
any-box t sizes zero node = or-false (t (node * 1)) ∙ ap t (let z : node * 1 ≡ node = omega arith in z)
any-box t sizes (suc i) node =
    let n = get_or sizes i 0 in
    let S = size_of sizes i in
    ap (λ m. any_of t (from m (n * S))) (let z : node * (n * S) ≡ node * (n * S) + 0 * S = omega arith in z) ∙ any-rows t (node * (n * S)) S 0 n
    ∙ any_same (λ x. any_of t (from (node * (n * S) + x * S) S)) (λ x. somewhere (axes sizes i) (λ p. t (box_of sizes i (node * n + x) p))) (from 0 n)
    (All-each _ (λ x. ap (λ m. any_of t (from m S)) (row x) ∙ any-box t sizes i (node * n + x)) (from 0 n))
  where
    row : (x : ℕ) → node * (get_or sizes i 0 * size_of sizes i) + x * size_of sizes i ≡ (node * get_or sizes i 0 + x) * size_of sizes i
    row x = ap (◌+ x * size_of sizes i) (sym (mul_assoc node (get_or sizes i 0) (size_of sizes i))) ∙ sym (add-mul (node * get_or sizes i 0) x (size_of sizes i))

-- ## Lists
module _ (rows sizes table : List ℕ) (rs : List Rule) (lawful : All Lawful rs) (cut : CutBy rows sizes table rs dimensions) (n : ℕ) (f : ℕ → List ℕ)
    (boxed : (p : List ℕ) → Within sizes 4 p → f (box_of sizes 4 0 p) ≡ indexes_at (take n rs) (start_of rows table 4 p)) where
  bounded : Bounded rs dimensions
  bounded = lawful-bounded rs lawful

  each-point : (p q : List ℕ) → Within sizes 4 p → Under (cut_of rows table) 4 p q → f (box_of sizes 4 0 p) ≡ indexes_at (take n rs) q
  each-point p q w u = boxed p w ∙ indexes-marks rs n (start_of rows table 4 p) q (box-marks rows sizes table rs dimensions cut bounded p q w u)

  -- SOME LIST PASSES
  pub some-list : (t : List ℕ → Bool) → any_of (λ b. t (f b)) (from 0 (size_of sizes 4)) ≡ somewhere points (λ q. t (indexes_at (take n rs) q))
  some-list t =
      ap (λ m. any_of (λ b. t (f b)) (from m (size_of sizes 4))) (let z : 0 ≡ 0 * size_of sizes 4 = omega arith in z) ∙ any-box (λ b. t (f b)) sizes 4 0
      ∙ somewhere-points (cut_of rows table) sizes 4 (cuts-rise rows sizes table rs dimensions cut bounded) (λ p. t (f (box_of sizes 4 0 p))) (λ q. t (indexes_at (take n rs) q))
      (λ p q w u. ap t (each-point p q w u))
      ∙ ap (λ D. somewhere D (λ q. t (indexes_at (take n rs) q))) (cuts-points rows sizes table rs dimensions cut bounded)

  -- HOW MANY LISTS
  pub lists-counted : length (distinct_lists (map f (from 0 (size_of sizes 4)))) ≡ list_count rs n
  unfolding list_count
  lists-counted =
      distinct-same exact filled (map f (from 0 (size_of sizes 4))) (map (indexes_at (take n rs)) (points_of points))
      (λ w m _. any-Mem exact w (map (indexes_at (take n rs)) (points_of points)) (sym (both w) ∙ Mem-any exact w (map f (from 0 (size_of sizes 4))) m))
      (λ w m _. any-Mem exact w (map f (from 0 (size_of sizes 4))) (both w ∙ Mem-any exact w (map (indexes_at (take n rs)) (points_of points)) m))
    where
      exact : Exact (same_list eqb)
      exact = exact-list exact-eqb

      both : (w : List ℕ) → any_of (same_list eqb w) (map f (from 0 (size_of sizes 4))) ≡ any_of (same_list eqb w) (map (indexes_at (take n rs)) (points_of points))
      both w = any-map (same_list eqb w) f (from 0 (size_of sizes 4)) ∙ some-list (same_list eqb w) ∙ sym (any-points (same_list eqb w) points (indexes_at (take n rs)))
