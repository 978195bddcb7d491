-- Whether the marked boxes of a block all have a value: found by looking at the boxes of the block one after the other. Rests on the boxes' digits.
use mathlib.Core.Path.{◌≡◌, refl, sym, ap, ◌∙◌}
use mathlib.Core.Bool.{Bool, true, false, false≢true}
use mathlib.Core.List.{List, [], ◌∷◌}
use Prim.Native.Nat.{ℕ, zero, suc, ◌+◌, ◌-◌, ◌*◌, ◌/◌, ◌≤◌, ◌<◌}
use native.Mathlib.Omega.{arith}
use native.Mathlib.Nat.{div-eq_of_lt-le}
use lib.Dec.{eqb, ltb}
use lib.ListN.{get_or}
use borrow.Author.Tests.{eq-eqb, ltb-true, ltb-false}
use Rattle.laws.specs.Lists.{from, any_of, keep}
use Rattle.laws.proofs.Flags.{split-and, both-and}
use Rattle.laws.proofs.Lists.{All-keep, all-every, Mem-any, any-Mem, Mem-All, All-Mem}
use Rattle.laws.proofs.Numbers.{All-from}
use Rattle.laws.proofs.Tests.{exact-eqb}
use Rattle.grid.specs.Group.{Set, Map, at, inside, agree}
use Rattle.grid.proofs.Value.{agree-inside}
use Rattle.paving.specs.Grid.{Node, size_of, grid, chosen, marks_from}
use Rattle.paving.proofs.Room.{size-pos}
use Rattle.tables.specs.Lists.{Within, box_of}
use Rattle.plain_boxes.specs.Digits.{digits}
use Rattle.plain_boxes.proofs.Digits.{Filled, digits-within, box-digits, box-node, in_block, digits-box, grid-box}
use Rattle.plain_groups.proofs.Marked.{box_marked}

-- ## Sets
-- a set has the value where each of its points has it
inside-agree : (v : ℕ) (S : Set ℕ) (f : Map ℕ ℕ) → ((p : List ℕ) → inside eqb S p ≡ true → f p ≡ v) → agree eqb v S f ≡ true
unfolding agree inside
inside-agree v [] f h = eq-eqb (f []) v (h [] refl)
inside-agree v (E ∷ S) f h =
    all-every (λ x. agree eqb v S (at f x)) E
    (Mem-All (λ x. agree eqb v S (at f x) ≡ true) E
    (λ x m. inside-agree v S (at f x) (λ p i. h (x ∷ p) (both-and (any_of (eqb x) E) (inside eqb S p) (Mem-any exact-eqb x E m) i))))

-- a point of the marked set has an interval of each dimension
chosen-within : (marks sizes : List ℕ) (l base : ℕ) (p : List ℕ) → inside eqb (chosen marks sizes l base) p ≡ true → Within sizes l p
unfolding inside chosen marks_from
chosen-within marks sizes zero base [] i = tt
chosen-within marks sizes zero base (x ∷ p) i = absurd (false≢true i)
chosen-within marks sizes (suc l) base [] i = absurd (false≢true i)
chosen-within marks sizes (suc l) base (x ∷ p) i =
    let n = get_or sizes l 0 in
    let t : ℕ → Bool = λ y. eqb (get_or marks (base + y) 0) 1 in
    let k = split-and (any_of (eqb x) (marks_from marks base n 0)) (inside eqb (chosen marks sizes l (base + n)) p) i in
    let low = All-keep (λ y. y < n) t (from 0 (n - 0)) (All-from (λ y. y < n) 0 (n - 0) (λ y lo hi. omega arith)) in
    (All-Mem (λ y. y < n) (keep t (from 0 (n - 0))) low x (any-Mem exact-eqb x (keep t (from 0 (n - 0))) k.0), chosen-within marks sizes l (base + n) p k.1)

-- ## Blocks
block_of : (box node size : ℕ) → node * size ≤ box → box < node * size + size → box / size ≡ node
block_of box node size lo hi = div-eq_of_lt-le size lo (omega arith)

pub block-fits : (len : ℕ) (sizes : List ℕ) (l node size : ℕ) → size ≡ size_of sizes l → Node len sizes l node → node * size + size ≤ len
block-fits len sizes l node size e r = rw e (omega (arith, r.below))

-- the marked boxes from one up to another, excluded, have a value
unfoldable pub MarkedAre : List ℕ → List ℕ → List ℕ → ℕ → ℕ → ℕ → ℕ → ℕ → Type 0
MarkedAre cells sizes marks v l base first end =
    (box : ℕ) → first ≤ box → box < end → box_marked sizes marks box l base ≡ true → get_or cells box 0 ≡ v

module _ (cells sizes marks : List ℕ) (v l base : ℕ) where
  pub are-begin : (first : ℕ) → MarkedAre cells sizes marks v l base first first
  unfolding MarkedAre
  are-begin first box lo hi = absurd (omega arith)

  pub are-more : (first box : ℕ) → MarkedAre cells sizes marks v l base first box → (box_marked sizes marks box l base ≡ true → get_or cells box 0 ≡ v)
      → MarkedAre cells sizes marks v l base first (box + 1)
  unfolding MarkedAre
  are-more first box h k = λ b lo hi. go b lo hi (ltb b box) refl
    where
      go : (b : ℕ) → first ≤ b → b < box + 1 → (t : Bool) → ltb b box ≡ t → box_marked sizes marks b l base ≡ true → get_or cells b 0 ≡ v
      go b lo hi true t = h b lo (ltb-true b box t)
      go b lo hi false t = let z : b ≡ box = omega (arith, ltb-false b box t) in rw z k

  module _ (filled : Filled sizes l) (node size : ℕ) (e : size ≡ size_of sizes l) where
    -- all boxes passed
    pub good-end : (box : ℕ) → node * size + size ≤ box → MarkedAre cells sizes marks v l base (node * size) box
        → true ≡ agree eqb v (chosen marks sizes l base) (grid cells sizes l node)
    unfolding MarkedAre
    good-end box end h = sym (inside-agree v (chosen marks sizes l base) (grid cells sizes l node) at-point)
      where
        at-point : (p : List ℕ) → inside eqb (chosen marks sizes l base) p ≡ true → grid cells sizes l node p ≡ v
        at-point p i =
            let w = chosen-within marks sizes l base p i in
            let b = box_of sizes l node p in
            let block = in_block b node size (omega (arith, size-pos sizes l filled)) (ap (b /◌) e ∙ box-node sizes l node p w) in
            grid-box sizes cells l node p w ∙ h b block.0 (omega (arith, block.1)) (ap (inside eqb (chosen marks sizes l base)) (digits-box sizes l node p w) ∙ i)

    -- a marked box with another value
    pub good-no : (box : ℕ) (b : Bool) → node * size ≤ box → box < node * size + size → b ≡ box_marked sizes marks box l base → b ≡ true
        → (get_or cells box 0 ≡ v → ⊥)
        → false ≡ agree eqb v (chosen marks sizes l base) (grid cells sizes l node)
    good-no box b lo hi m t other = go (agree eqb v (chosen marks sizes l base) (grid cells sizes l node)) refl
      where
        p : List ℕ
        p = digits sizes l box

        here : grid cells sizes l node p ≡ get_or cells box 0
        here =
            let q : box / size_of sizes l ≡ node = ap (box /◌) (sym e) ∙ block_of box node size lo hi in
            grid-box sizes cells l node p (digits-within sizes l box filled) ∙ ap (λ d. get_or cells (box_of sizes l d p) 0) (sym q) ∙ ap (λ c. get_or cells c 0) (box-digits sizes l box)

        go : (a : Bool) → agree eqb v (chosen marks sizes l base) (grid cells sizes l node) ≡ a → false ≡ a
        go true k = absurd (other (sym here ∙ agree-inside exact-eqb exact-eqb v (chosen marks sizes l base) (grid cells sizes l node) p k (sym m ∙ t)))
        go false k = refl
