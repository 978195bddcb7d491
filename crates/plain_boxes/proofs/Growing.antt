-- THE GROUP OF THE FIRST BOX OF A CLASS, grown dimension after dimension from the last: in each, the box's block is the one in which the first group of
-- the class is found. Rests on the laws of popping, on the boxes' digits and on how many intervals dimensions have.
use mathlib.Core.Path.{◌≡◌, refl, sym, ap, ap₂, ◌∙◌, subst}
use mathlib.Core.Bool.{true}
use mathlib.Core.List.{List, []}
use Prim.Native.Nat.{ℕ, zero, suc, ◌+◌, ◌-◌, ◌*◌, ◌/◌, ◌≤◌, ◌<◌}
use native.Mathlib.Nat.{div-eq_of_lt}
use native.Mathlib.Omega.{arith}
use lib.ListN.{length, get_or}
use Rattle.paving.specs.Grid.{Node, Room, size_of, width_of, chosen, in_class, NoneFrom, pop_at, popped, pop_from, good_at, paint, marked, answer}
use mathlib.Core.Option.{some, none}
use Rattle.paving.proofs.Room.{node-child}
use Rattle.paving.proofs.Popping.{popped-pop, pop-leaf-yes, pop-columns-hit, pop-node-some, found_first}
use Rattle.paving.proofs.Skipping.{columns-before, before-none, skips}
use Rattle.plain_boxes.specs.Digits.{digit_of}
use Rattle.plain_boxes.proofs.Digits.{node-digit, node-whole, digit_low}
use Rattle.plain_boxes.specs.Groups.{base_of, grown, MarkedGroup}
use Rattle.plain_boxes.proofs.Widths.{width-next, width-le}

-- ## The block of a box
block-node : (len : ℕ) (sizes : List ℕ) (first l d top : ℕ) → top ≡ l + d → Node len sizes top (first / size_of sizes top) → Node len sizes l (first / size_of sizes l)
block-node len sizes first l zero top e r = let z : top ≡ l = omega arith in subst (λ m. Node len sizes m (first / size_of sizes m)) z r
block-node len sizes first l (suc d) top e r =
    let i = l + d in
    let z : top ≡ suc i = omega arith in
    let up = subst (λ m. Node len sizes m (first / size_of sizes m)) z r in
    let low = digit_low sizes first i (up.filled i (omega arith)) in
    let down = node-child len sizes i (first / size_of sizes (suc i)) (get_or sizes i 0) (digit_of sizes first i) refl low up in
    block-node len sizes first l d i refl (subst (Node len sizes i) (node-digit sizes first i) down)

-- its boxes are all there, and so are the marks of its dimensions
pub block_room : (len places : ℕ) (sizes : List ℕ) (first l : ℕ) → l ≤ 4 → first < size_of sizes 4 → Room len places sizes 4 0 0
    → Room len places sizes l (first / size_of sizes l) (base_of sizes l)
unfolding base_of
block_room len places sizes first l h lt r = record {
  column = block-node len sizes first l (4 - l) 4 (omega arith) (subst (Node len sizes 4) (sym (div-eq_of_lt lt)) r.column);
  marked = omega (arith, width-le sizes l 4 h, r.marked);
}

-- ## A dimension grown
-- before the first interval: the block and the place of the marks, found by the sizes
pub grown-begin : (cells sizes marks : List ℕ) (first i n size all left : ℕ) → i < 4 → first < size_of sizes 4 → n ≡ get_or sizes i 0
    → size ≡ size_of sizes (i + 1) → all ≡ width_of sizes 4 → left ≡ width_of sizes (i + 1) → Room (length cells) (length marks) sizes 4 0 0
    → Room (length cells) (length marks) sizes (suc i) (first / size) (all - left)
    × (paint (good_at cells sizes i (first / size) marks (all - left) (get_or cells first 0)) (all - left) 0 (n - 0) marks ≡ grown cells sizes first i marks)
unfolding grown base_of
grown-begin cells sizes marks first i n size all left h lt e z a w r =
    let one : i + 1 ≡ suc i = omega arith in
    let same : n - 0 ≡ n = omega arith in
    rw (same, e, z, a, w, one) (block_room (length cells) (length marks) sizes first (suc i) h lt r, refl)

-- ## The group of a box
module _ (cells sizes : List ℕ) (first : ℕ) where
  pub group-begin : (marks : List ℕ) (base : ℕ) → MarkedGroup cells sizes first 0 (first / size_of sizes 0) base marks marks
  unfolding MarkedGroup
  group-begin marks base = rw (node-whole sizes first) (λ classes class missed hit. pop-leaf-yes cells classes sizes class marks 0 first base true refl (sym hit) refl)

  -- a dimension more: the block is taken that holds the block so far, and the marks stand before those so far
  pub group-more : (i : ℕ) (s s₁ s₂ : List ℕ) → i < 4 → 1 ≤ get_or sizes i 0 → width_of sizes 4 ≤ length s
      → MarkedGroup cells sizes first i (first / size_of sizes i) (base_of sizes i) s s₁ → s₂ ≡ grown cells sizes first i s₁
      → MarkedGroup cells sizes first (suc i) (first / size_of sizes (suc i)) (base_of sizes (suc i)) s s₂
  unfolding MarkedGroup grown base_of
  group-more i s s₁ s₂ lt filled room g p classes class missed hit =
      let v = get_or cells first 0 in
      let n = get_or sizes i 0 in
      let j = digit_of sizes first i in
      let node = first / size_of sizes (suc i) in
      let base = base_of sizes (suc i) in
      let low = digit_low sizes first i filled in
      let next = width-next sizes i (suc i) refl in
      let all = width-le sizes (suc i) 4 lt in
      let back : base_of sizes i ≡ base + n = omega arith in
      let block = sym (node-digit sizes first i) in
      let below = g classes class missed hit in
      let here = pop-columns-hit cells classes sizes class i node base n j refl (some v) s s₁ low
      (below.0 ∙ ap (λ b. answer (pop_at cells classes sizes class i b)) block)
      (below.1 ∙ ap₂ (λ m b. marked sizes i m (pop_at cells classes sizes class i b) s) back block) v refl in
      let passed = skips cells classes sizes class first missed i node n j refl (omega arith)
      (columns-before (node * n) (size_of sizes i) first (first / size_of sizes i) (size_of sizes i) j refl refl (omega arith)) in
      let found = found_first sizes i (base + n) (pop_from cells sizes i node (in_class classes class) j) (pop_from cells sizes i node (in_class classes class) 0)
      (some v) s s s₁ passed refl here in
      pop-node-some cells classes sizes class (suc i) i node base n refl refl (some v) s s₁ found.0 found.1 v s₂ refl (omega arith) p

-- ## The first group of a class
module _ (cells classes sizes : List ℕ) (class l first : ℕ) (missed : NoneFrom cells (in_class classes class) 0 first) where
  pub first_group : (marks marks₁ : List ℕ) → width_of sizes l ≤ length marks → MarkedGroup cells sizes first l 0 0 marks marks₁
      → in_class classes class (get_or cells first 0) ≡ true
      → (popped (some (get_or cells first 0)) (chosen marks₁ sizes l 0) ≡ pop_at cells classes sizes class l 0)
      × (marks₁ ≡ marked sizes l 0 (pop_at cells classes sizes class l 0) marks)
  unfolding MarkedGroup
  first_group marks marks₁ room g hit =
      let found = g classes class missed hit in
      (popped-pop cells classes sizes class l 0 0 marks marks₁ (some (get_or cells first 0)) (omega arith) found.0 found.1, found.1)

  -- all boxes passed: there is none
  pub no-group : size_of sizes l ≤ first → popped none [] ≡ pop_at cells classes sizes class l 0
  unfolding popped
  no-group h = sym (before-none cells classes sizes class first missed l 0 (omega arith))
