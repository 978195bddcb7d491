-- One lemma for each return of the search for a point's box. Rests on paving's laws of columns.
use mathlib.Core.Path.{◌≡◌, ap, ◌∙◌, subst}
use mathlib.Core.List.{List, [], ◌∷◌}
use Prim.Native.Nat.{ℕ, suc, ◌+◌, ◌*◌, ◌-◌, ◌≤◌, ◌<◌}
use native.Mathlib.Omega.{arith}
use lib.ListN.{length, get_or}
use Rattle.definition.specs.Sheet.{sheet_limits}
use Rattle.paving.specs.Grid.{size_of, Node}
use Rattle.paving.proofs.Room.{node_in, node-child}
use Rattle.tables.specs.Cuts.{cut_of}
use Rattle.tables.specs.Lists.{box_of}
use Rattle.state_at.specs.Boxes.{Framed, ChildAt, BoxAt}

-- ## An interval
module _ (cuts : List ℕ) (first size value : ℕ) where
  -- a value between two cuts of a row
  abbrev pub Enclosed : ℕ → ℕ → Type 0
  Enclosed lower upper = (lower < upper) × (upper ≤ size) × (get_or cuts (first + lower) 0 ≤ value) × (value < get_or cuts (first + upper) 0)

  pub enclosed-first : 1 ≤ size → get_or cuts first 0 ≤ value → value < get_or cuts (first + size) 0 → Enclosed 0 size
  enclosed-first f l h = let z : first ≡ first + 0 = omega arith in (f, omega arith, subst (λ k. get_or cuts k 0 ≤ value) z l, h)

  pub enclosed-last : (lower upper : ℕ) → Enclosed lower upper → upper - lower ≤ 1
      → (lower < size) × (get_or cuts (first + lower) 0 ≤ value) × (value < get_or cuts (first + suc lower) 0)
  enclosed-last lower upper h l = let z : upper ≡ suc lower = omega (arith, h.0) in (omega (arith, h.0, h.1), h.2, subst (λ k. value < get_or cuts (first + k) 0) z h.3)

-- ## A child, and a box
pub child-low : (sizes : List ℕ) (i node size x : ℕ) → Node (size_of sizes 4) sizes (suc i) node → size_of sizes 4 ≤ sheet_limits.boxes → size ≡ get_or sizes i 0
    → x < size → node * size + x < sheet_limits.boxes
child-low sizes i node size x n few s h =
    omega (arith, few, node_in (size_of sizes 4) sizes i (node * size + x) (node-child (size_of sizes 4) sizes i node size x s h n))

module _ (rows sizes cuts : List ℕ) where
  -- a row around a value can be searched
  pub row-around : (i y size first : ℕ) → Framed rows sizes cuts i y → size ≡ get_or sizes i 0 → first ≡ get_or rows i 0
      → (first + size < length cuts) × (1 ≤ size) × (get_or cuts first 0 ≤ y) × (y < get_or cuts (first + size) 0)
  unfolding cut_of
  row-around i y size first f s e =
      let z : get_or rows i 0 + 0 ≡ first = omega arith in
      let q : get_or rows i 0 + get_or sizes i 0 ≡ first + size = omega arith in
      (omega (arith, f.inside), omega (arith, f.filled), subst (λ k. get_or cuts k 0 ≤ y) z f.from_first, subst (λ k. y < get_or cuts k 0) q f.to_last)

  pub child-found : (i node y size first x : ℕ) → Node (size_of sizes 4) sizes (suc i) node → size ≡ get_or sizes i 0 → first ≡ get_or rows i 0
      → (x < size) × (get_or cuts (first + x) 0 ≤ y) × (y < get_or cuts (first + suc x) 0) → ChildAt rows sizes cuts i node y (node * size + x)
  unfolding cut_of
  child-found i node y size first x n s f h = record {
    column = x;
    held = (
      omega (arith, h.0, s),
      subst (λ r. get_or cuts (r + x) 0 ≤ y) f h.1,
      subst (λ r. y < get_or cuts (r + suc x) 0) f h.2,
    );
    numbered = ap (λ k. node * k + x) s;
    below = node-child (size_of sizes 4) sizes i node size x s h.0 n;
  }

  -- the same of an equal value
  pub child-of : (i node y z child : ℕ) → y ≡ z → ChildAt rows sizes cuts i node y child → ChildAt rows sizes cuts i node z child
  child-of i node y z child e h = subst (λ v. ChildAt rows sizes cuts i node v child) e h

  pub box-found : (weekday week month year a b c d : ℕ) → ChildAt rows sizes cuts 3 0 weekday a → ChildAt rows sizes cuts 2 a week b
      → ChildAt rows sizes cuts 1 b month c → ChildAt rows sizes cuts 0 c year d → BoxAt rows sizes cuts (weekday ∷ week ∷ month ∷ year ∷ []) d
  unfolding box_of
  box-found weekday week month year a b c d ha hb hc hd = record {
    columns = ha.column ∷ hb.column ∷ hc.column ∷ hd.column ∷ [];
    held = (ha.held, (hb.held, (hc.held, (hd.held, tt))));
    numbered = hd.numbered ∙ ap (λ n. n * get_or sizes 0 0 + hd.column) (hc.numbered ∙ ap (λ n. n * get_or sizes 1 0 + hc.column)
        (hb.numbered ∙ ap (λ n. n * get_or sizes 2 0 + hb.column) ha.numbered));
    there = node_in (size_of sizes 4) sizes 0 d hd.below;
  }
