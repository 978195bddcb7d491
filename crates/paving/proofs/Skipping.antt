-- Where the search for a group may begin: if no cell before a given one is of the class, the columns before that cell have no group. And the
-- sizes of nodes.
use mathlib.Core.Path.{◌≡◌, refl, sym, ap, ◌∙◌}
use mathlib.Core.Bool.{Bool, true, false, cond}
use mathlib.Core.List.{List, [], ◌∷◌}
use mathlib.Core.Option.{none}
use Prim.Native.Nat.{ℕ, zero, suc, ◌+◌, ◌-◌, ◌*◌, ◌/◌, ◌≤◌, ◌<◌}
use native.Mathlib.Omega.{arith}
use native.Mathlib.Nat.{mul-le-mul_right, div-mul-le_self, le-div_iff_mul-le, div-lt_iff_lt-mul, lt-div-mul-add, mul_assoc}
use lib.Dec.{eqb, ltb}
use lib.ListN.{get_or}
use borrow.Author.Tests.{ltb-true, ltb-false}
use Rattle.laws.specs.Lists.{from, first_of, any_of}
use Rattle.grid.specs.Group.{Set, Map, at, pop, grow, clear}
use Rattle.paving.specs.Grid.{size_of, axes, grid, in_class, NoneFrom, pop_at, pop_from, marked, answer, Cleared}
use Rattle.paving.proofs.Room.{from_end, size-pos, at-grid}
use Rattle.paving.proofs.Popping.{pop-unfold, pop-columns-miss}

-- ## Sizes
pub size-le : (sizes : List ℕ) (k l : ℕ) → ((j : ℕ) → j < l → 1 ≤ get_or sizes j 0) → k ≤ l → size_of sizes k ≤ size_of sizes l
unfolding size_of
size-le sizes k zero f h = let z : k ≡ 0 = omega arith in rw z (omega arith)
size-le sizes k (suc l) f h = go (ltb k (suc l)) refl (size-le sizes k l (λ j lt. f j (omega arith)))
  where
    go : (b : Bool) → ltb k (suc l) ≡ b → (k ≤ l → size_of sizes k ≤ size_of sizes l) → size_of sizes k ≤ get_or sizes l 0 * size_of sizes l
    go true t ih =
        let lower = ih (omega (arith, ltb-true k (suc l) t)) in
        let more : 1 * size_of sizes l ≤ get_or sizes l 0 * size_of sizes l = mul-le-mul_right (size_of sizes l) (f l (omega arith)) in
        omega (arith, lower, more)
    go false t ih = let z : k ≡ suc l = omega (arith, ltb-false k (suc l) t) in rw z (omega arith)

pub size_none : (sizes : List ℕ) → 1 ≡ size_of sizes 0
unfolding size_of
size_none sizes = refl

pub size-next : (sizes : List ℕ) (k size width : ℕ) → size ≡ size_of sizes k → width ≡ get_or sizes k 0 → width * size ≡ size_of sizes (k + 1)
unfolding size_of
size-next sizes k size width e w = let z : k + 1 ≡ suc k = omega arith in rw (z, e, w)

pub size_fits : (sizes : List ℕ) (k l size width : ℕ) → ((j : ℕ) → j < l → 1 ≤ get_or sizes j 0) → k < l → size ≡ size_of sizes k → width ≡ get_or sizes k 0
    → width * size ≤ size_of sizes l
size_fits sizes k l size width f h e w = rw (size-next sizes k size width e w) (size-le sizes (k + 1) l f (omega arith))

-- ## Columns before a cell
pub columns-before : (child size first c s r : ℕ) → size ≡ s → c ≡ first / size → r ≤ c - child → (x : ℕ) → x < r → (child + x + 1) * s ≤ first
columns-before child size first c s r z e l x h =
    let a : (child + x + 1) * size ≤ first / size * size = mul-le-mul_right size (omega arith) in
    rw (← z) (omega (arith, a, div-mul-le_self first size))

module _ (cells classes sizes : List ℕ) (k : ℕ) where
  -- columns without a group are passed
  passed : (i node c : ℕ) → c ≤ get_or sizes i 0 → ((x : ℕ) → x < c → pop_at cells classes sizes k i (node * get_or sizes i 0 + x) ≡ none)
      → pop_from cells sizes i node (in_class classes k) c ≡ pop_from cells sizes i node (in_class classes k) 0
  unfolding answer marked
  passed i node zero h p = refl
  passed i node (suc c) h p =
      let n = get_or sizes i 0 in
      let z : suc c ≡ c + 1 = omega arith in
      ap (pop_from cells sizes i node (in_class classes k)) z
      ∙ (pop-columns-miss cells classes sizes k i node 0 n c refl none [] [] (omega arith) (ap answer (sym (p c (omega arith))))
      (ap (λ o. marked sizes i (0 + n) o []) (sym (p c (omega arith)))) refl).0
      ∙ passed i node c (omega arith) (λ x l. p x (omega arith))

  module _ (first : ℕ) (a : NoneFrom cells (in_class classes k) 0 first) where
    pub before-none : (l node : ℕ) → (node + 1) * size_of sizes l ≤ first → pop_at cells classes sizes k l node ≡ none
    unfolding NoneFrom pop_at pop_from pop axes grid size_of first_of grow
    before-none zero node h = rw (a node (omega arith) (omega arith), pop)
    before-none (suc i) node h =
        pop-unfold cells classes sizes k i node ∙ ap (grow eqb (from 0 (get_or sizes i 0)) (grid cells sizes (suc i) node)) (all (before-none i))
      where
        n : ℕ
        n = get_or sizes i 0

        child : (x : ℕ) → x < n → (node * n + x + 1) * size_of sizes i ≤ first
        child x l =
            let b : (node * n + x + 1) * size_of sizes i ≤ (node + 1) * n * size_of sizes i = mul-le-mul_right (size_of sizes i) (omega arith) in
            omega (arith, b, mul_assoc (node + 1) n (size_of sizes i), h)

        ends : pop_from cells sizes i node (in_class classes k) n ≡ none
        ends = rw (from_end n n (omega arith))

        all : ((d : ℕ) → (d + 1) * size_of sizes i ≤ first → pop_at cells classes sizes k i d ≡ none) → pop_from cells sizes i node (in_class classes k) 0 ≡ none
        all ih = sym (passed i node n (omega arith) (λ x l. ih (node * n + x) (child x l))) ∙ ends

    pub skips : (i node n c : ℕ) → n ≡ get_or sizes i 0 → c ≤ n → ((x : ℕ) → x < c → (node * n + x + 1) * size_of sizes i ≤ first)
        → pop_from cells sizes i node (in_class classes k) c ≡ pop_from cells sizes i node (in_class classes k) 0
    skips i node n c e l h = passed i node c (omega arith) (λ x lt. before-none i (node * get_or sizes i 0 + x) (rw e at (h x lt)))

-- ## After some cells were emptied
-- the point at which a map over the cells below a node shows a cell
cell-point : (sizes : List ℕ) (l node q : ℕ) → ((k : ℕ) → k < l → 1 ≤ get_or sizes k 0) → node * size_of sizes l ≤ q → q < (node + 1) * size_of sizes l
    → (p : List ℕ) × ((cells : List ℕ) → grid cells sizes l node p ≡ get_or cells q 0)
unfolding grid size_of
cell-point sizes zero node q f lo hi = let z : node ≡ q = omega arith in ([], λ cells. ap (λ m. get_or cells m 0) z)
cell-point sizes (suc i) node q f lo hi =
    let n = get_or sizes i 0 in
    let s = size_of sizes i in
    let pos : 1 ≤ s = size-pos sizes i (λ k lt. f k (omega arith)) in
    let low : node * n ≤ q / s = (le-div_iff_mul-le pos).1 (omega (arith, mul_assoc node n s)) in
    let high : q / s < (node + 1) * n = (div-lt_iff_lt-mul pos).1 (omega (arith, mul_assoc (node + 1) n s)) in
    let z : node * n + (q / s - node * n) ≡ q / s = omega arith in
    let below = cell-point sizes i (q / s) q (λ k lt. f k (omega arith)) (div-mul-le_self q s) (omega (arith, lt-div-mul-add {a = q} {b = s} pos)) in (
      (q / s - node * n) ∷ below.0,
      λ cells.
          ap (λ g. g below.0) (at-grid cells sizes i node (q / s - node * n) (omega arith)) ∙ ap (λ d. grid cells sizes i d below.0) z ∙ below.1 cells,
    )

clear-unmatched : (ok : ℕ → Bool) → ok 0 ≡ false → (S : Set ℕ) (f : Map ℕ ℕ) (p : List ℕ) → ok (f p) ≡ false → ok (clear eqb 0 S f p) ≡ false
unfolding clear
clear-unmatched ok z [] f [] h = z
clear-unmatched ok z [] f (x ∷ p) h = h
clear-unmatched ok z (E ∷ S) f [] h = h
clear-unmatched ok z (E ∷ S) f (x ∷ p) h = go (any_of (eqb x) E) (clear-unmatched ok z S (at f x) p h)
  where
    go : (b : Bool) → ok (clear eqb 0 S (at f x) p) ≡ false → ok (cond b (clear eqb 0 S (at f x)) (at f x) p) ≡ false
    go true ih = ih
    go false ih = h

-- where none was of the class, none is
pub none_after : (cells after sizes : List ℕ) (ok : ℕ → Bool) (l first : ℕ) (S : Set ℕ) → ((k : ℕ) → k < l → 1 ≤ get_or sizes k 0) → ok 0 ≡ false
    → Cleared cells after sizes l 0 S
    → first ≤ size_of sizes l → NoneFrom cells ok 0 first → NoneFrom after ok 0 first
unfolding NoneFrom
none_after cells after sizes ok l first S f z c h a = λ q lo hi.
    let point = cell-point sizes l 0 q f (omega arith) (omega arith) in
    ap ok (sym (point.1 after)) ∙ ap (λ g. ok (g point.0)) (c 0)
    ∙ clear-unmatched ok z S (grid cells sizes l 0) point.0 (ap ok (point.1 cells) ∙ a q lo hi)
