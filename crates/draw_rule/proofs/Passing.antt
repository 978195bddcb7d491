-- A walk over runs: the boxes that it has passed, with one run or one node more; and that the cells below a run are there. Rests on paving's laws of
-- nodes.
use mathlib.Core.Path.{◌≡◌, refl, sym, ap, ◌∙◌}
use mathlib.Core.List.{List, [], ◌∷◌, ◌++◌, flat_map, append-nil, append_assoc}
use Prim.Native.Nat.{ℕ, suc, ◌+◌, ◌-◌, ◌*◌, ◌≤◌, ◌<◌}
use native.Mathlib.Omega.{arith}
use native.Mathlib.Nat.{mul-le-mul_right, mul_assoc, le-mul_of_pos_right}
use lib.ListN.{get_or}
use Rattle.laws.specs.Lists.{from}
use Rattle.laws.proofs.Numbers.{from-append}
use Rattle.laws.proofs.Spread.{flat_map-last}
use Rattle.paving.specs.Grid.{size_of, Node}
use Rattle.paving.proofs.Room.{size-pos}
use Rattle.draw_rule.specs.Runs.{Nodes, first_below, end_below, over_run, reached, reached_from}

-- ## Boxes passed
pub boxes-none : (first : ℕ) → from first (first - first) ≡ []
unfolding from
boxes-none first = let z : first - first ≡ 0 = omega arith in ap (from first) z

pub boxes-more : (first box : ℕ) → first ≤ box → from first (box + 1 - first) ≡ from first (box - first) ++ (box ∷ [])
unfolding from
boxes-more first box h = let e : box + 1 - first ≡ box - first + 1 = omega arith in ap (from first) e ∙ sym (from-append first (box - first) 1 box (omega arith))

runs-more : (range : ℕ) → from 0 (range + 1) ≡ from 0 range ++ (range ∷ [])
unfolding from
runs-more range = sym (from-append 0 range 1 range (omega arith))

-- ## Nodes
module _ {len : ℕ} {sizes : List ℕ} where
  -- the cells below a node's columns
  pub nodes-child : (i node x : ℕ) {end : ℕ} → Nodes len sizes (suc i) end → node < end → x ≤ get_or sizes i 0 → Nodes len sizes i (node * get_or sizes i 0 + x)
  unfolding size_of
  nodes-child i node x {end} n l h =
      let w = get_or sizes i 0 in
      let a : node * w + x ≤ (node + 1) * w = omega arith in
      let b : (node + 1) * w ≤ end * w = mul-le-mul_right w (omega arith) in
      let c : (node * w + x) * size_of sizes i ≤ end * w * size_of sizes i = mul-le-mul_right (size_of sizes i) (omega arith) in
      let d : end * w * size_of sizes i ≡ end * (w * size_of sizes i) = mul_assoc end w (size_of sizes i) in
      record { filled = λ k lt. n.filled k (omega arith); below = omega (arith, n.below) }

  pub nodes-all : Node len sizes 4 0 → Nodes len sizes 4 1
  nodes-all n = record { filled = n.filled; below = n.below }

  pub nodes-in : (l : ℕ) {end : ℕ} → Nodes len sizes l end → end ≤ len
  nodes-in l {end} n = let a : end ≤ end * size_of sizes l = le-mul_of_pos_right end (size-pos sizes l n.filled) in omega (arith, n.below)

-- ## What a walk over the nodes from one on has passed: the nodes before the one at hand, and of this one the first runs
module _ (sizes counts runs : List ℕ) (i first : ℕ) where
  unfoldable pub passed : ℕ → ℕ → List ℕ
  passed node range = reached_from sizes counts runs (suc i) first node ++ flat_map (over_run sizes counts runs i (reached sizes counts runs i) node) (from 0 range)

  pub passed_none : passed first 0 ≡ []
  unfolding passed reached_from flat_map from
  passed_none = rw (boxes-none first)

  pub passed-run : (node range start end : ℕ) → start ≡ first_below sizes runs i node range → end ≡ end_below sizes runs i node range
      → passed node (range + 1) ≡ passed node range ++ reached_from sizes counts runs i start end
  unfolding passed reached_from over_run
  passed-run node range start end a b =
      let f = over_run sizes counts runs i (reached sizes counts runs i) node in
      rw (a, b, runs-more range, flat_map-last f (from 0 range) range, append_assoc)

  pub passed-node : (node range : ℕ) → first ≤ node → range ≡ get_or counts i 0 → passed (node + 1) 0 ≡ passed node range
  unfolding passed reached_from reached flat_map from
  passed-node node range h e = rw (boxes-more first node h, flat_map-last (reached sizes counts runs (suc i)) (from first (node - first)) node, e, append-nil)

  pub passed-all : (node range end : ℕ) → node ≡ end → range ≡ 0 → reached_from sizes counts runs (suc i) first end ≡ passed node range
  unfolding passed flat_map from
  passed-all node range end e z = rw (e, z, append-nil)

-- at the last dimension a run's columns are boxes
single : (sizes counts runs xs : List ℕ) → flat_map (reached sizes counts runs 0) xs ≡ xs
unfolding flat_map reached
single sizes counts runs [] = refl
single sizes counts runs (x ∷ xs) = ap (x ∷◌) (single sizes counts runs xs)

pub reached-boxes : (sizes counts runs : List ℕ) (start end : ℕ) → reached_from sizes counts runs 0 start end ≡ from start (end - start)
unfolding reached_from
reached-boxes sizes counts runs start end = single sizes counts runs (from start (end - start))
