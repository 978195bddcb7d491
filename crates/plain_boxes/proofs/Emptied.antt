-- EMPTYING A SET box after box: a box whose digits lie in the set is emptied, every other one keeps its value. Rests on the boxes' digits.
use mathlib.Core.Path.{◌≡◌, refl, sym, ap, ◌∙◌, fun_ext}
use mathlib.Core.Bool.{Bool, true, false, cond}
use mathlib.Core.List.{List, [], ◌∷◌}
use mathlib.Core.Logic.{◌⊎◌, inl, inr}
use Prim.Native.Nat.{ℕ, zero, suc, ◌+◌, ◌*◌, ◌≤◌, ◌<◌}
use native.Mathlib.Omega.{arith}
use native.Mathlib.Nat.{mul-le-mul_right}
use lib.Dec.{eqb, ltb}
use lib.ListN.{get_or}
use borrow.Author.Tests.{eqb-true, eqb-false, ltb-true}
use Rattle.grid.specs.Group.{Set, inside, clear}
use Rattle.grid.proofs.Value.{clear-value}
use Rattle.paving.specs.Grid.{size_of, grid, Cleared}
use Rattle.paving.proofs.Room.{size-pos}
use Rattle.tables.specs.Lists.{Within, box_of}
use Rattle.plain_boxes.specs.Digits.{digits}
use Rattle.plain_boxes.proofs.Digits.{Filled, in_block, box-node, digits-box, grid-box}

-- a point either has an interval of each dimension, or every map over a grid is 0 there
within-or : (sizes : List ℕ) (l : ℕ) (p : List ℕ) → Within sizes l p ⊎ ((cells : List ℕ) (node : ℕ) → grid cells sizes l node p ≡ 0)
unfolding grid
within-or sizes zero [] = inl tt
within-or sizes zero (x ∷ p) = inr (λ cells node. refl)
within-or sizes (suc i) [] = inr (λ cells node. refl)
within-or sizes (suc i) (x ∷ p) = go (ltb x (get_or sizes i 0)) refl (within-or sizes i p)
  where
    go : (b : Bool) → ltb x (get_or sizes i 0) ≡ b → Within sizes i p ⊎ ((cells : List ℕ) (node : ℕ) → grid cells sizes i node p ≡ 0)
        → Within sizes (suc i) (x ∷ p) ⊎ ((cells : List ℕ) (node : ℕ) → grid cells sizes (suc i) node (x ∷ p) ≡ 0)
    go true t (inl w) = inl (ltb-true x (get_or sizes i 0) t, w)
    go true t (inr z) = inr (λ cells node. rw t (z cells (node * get_or sizes i 0 + x)))
    go false t w = inr (λ cells node. rw t)

pub boxes-cleared : (sizes cells after : List ℕ) (l : ℕ) (S : Set ℕ) → Filled sizes l
    → ((box : ℕ) → box < size_of sizes l → get_or after box 0 ≡ cond (inside eqb S (digits sizes l box)) 0 (get_or cells box 0))
    → ((box : ℕ) → size_of sizes l ≤ box → get_or after box 0 ≡ get_or cells box 0) → Cleared cells after sizes l 0 S
boxes-cleared sizes cells after l S filled passed later = λ d. fun_ext (λ p. go d p (eqb d 0) refl (within-or sizes l p))
  where
    zero-either : (b : Bool) → ◌≡◌ {A = ℕ} 0 (cond b 0 0)
    zero-either true = refl
    zero-either false = refl

    go : (d : ℕ) (p : List ℕ) (b : Bool) → eqb d 0 ≡ b → Within sizes l p ⊎ ((c : List ℕ) (node : ℕ) → grid c sizes l node p ≡ 0)
        → grid after sizes l d p ≡ cond b (clear eqb 0 S (grid cells sizes l d)) (grid cells sizes l d) p
    go d p true t (inr z) =
        z after d ∙ zero-either (inside eqb S p) ∙ ap (cond (inside eqb S p) 0) (sym (z cells d)) ∙ sym (clear-value eqb 0 S (grid cells sizes l d) p)
    go d p false t (inr z) = z after d ∙ sym (z cells d)
    go d p true t (inl w) =
        let box = box_of sizes l d p in
        let block = in_block box d (size_of sizes l) (size-pos sizes l filled) (box-node sizes l d p w) in
        let z : d * size_of sizes l ≡ 0 * size_of sizes l = ap (◌* size_of sizes l) (eqb-true d 0 t) in
        grid-box sizes after l d p w ∙ passed box (omega (arith, block.1, z))
        ∙ ap (λ q. cond (inside eqb S q) 0 (get_or cells box 0)) (digits-box sizes l d p w)
        ∙ ap (cond (inside eqb S p) 0) (sym (grid-box sizes cells l d p w))
        ∙ sym (clear-value eqb 0 S (grid cells sizes l d) p)
    go d p false t (inl w) =
        let box = box_of sizes l d p in
        let block = in_block box d (size_of sizes l) (size-pos sizes l filled) (box-node sizes l d p w) in
        let one : 1 * size_of sizes l ≤ d * size_of sizes l = mul-le-mul_right (size_of sizes l) (omega (arith, eqb-false d 0 t)) in
        grid-box sizes after l d p w ∙ later box (omega (arith, block.0, one)) ∙ sym (grid-box sizes cells l d p w)
