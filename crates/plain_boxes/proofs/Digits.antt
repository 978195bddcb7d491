-- A BOX AND ITS DIGITS name each other, below any node; and a map over a grid has at a box's digits what the box's cell has. Rests on division.
use mathlib.Core.Path.{◌≡◌, refl, sym, ap, ap₂, ◌∙◌}
use mathlib.Core.List.{List, [], ◌∷◌}
use Prim.Native.Nat.{ℕ, zero, suc, ◌+◌, ◌*◌, ◌/◌, ◌%◌, ◌≤◌, ◌<◌}
use native.Mathlib.Nat.{mul_comm, mod-lt, mod-eq_of_lt, div-eq_of_lt, div-one, div-add-mod', div-mul-le_self, lt-div-mul-add, div-div-eq-div-mul, mul-add-div_right, mul-add-mod_self_right}
use native.Mathlib.Omega.{arith}
use lib.ListN.{get_or}
use Rattle.paving.specs.Grid.{size_of, grid}
use Rattle.paving.proofs.Room.{at-grid}
use Rattle.tables.specs.Lists.{Within, box_of}
use Rattle.plain_boxes.specs.Digits.{digit_of, digits}

-- each dimension from the last on, l of them, has an interval
abbrev pub Filled : List ℕ → ℕ → Type 0
Filled sizes l = (k : ℕ) → k < l → 1 ≤ get_or sizes k 0

-- the boxes of a block stand one behind the other
pub in_block : (box node size : ℕ) → 1 ≤ size → box / size ≡ node → (node * size ≤ box) × (box < node * size + size)
in_block box node size some e =
    let z : box / size * size ≡ node * size = ap (◌* size) e in
    (omega (arith, z, div-mul-le_self box size), omega (arith, z, lt-div-mul-add {a = box} {b = size} some))

module _ (sizes : List ℕ) where
  -- ## Numbers of nodes
  -- the node above
  pub above : (box i : ℕ) → box / size_of sizes (suc i) ≡ box / size_of sizes i / get_or sizes i 0
  unfolding size_of
  above box i = ap (box /◌) (mul_comm (get_or sizes i 0) (size_of sizes i)) ∙ sym (div-div-eq-div-mul box (size_of sizes i) (get_or sizes i 0))

  -- the number of a node is that of the one above and the digit between them
  pub node-digit : (box i : ℕ) → box / size_of sizes (suc i) * get_or sizes i 0 + digit_of sizes box i ≡ box / size_of sizes i
  unfolding digit_of
  node-digit box i = ap (λ m. m * get_or sizes i 0 + box / size_of sizes i % get_or sizes i 0) (above box i) ∙ div-add-mod' (box / size_of sizes i) (get_or sizes i 0)

  pub node-whole : (box : ℕ) → box / size_of sizes 0 ≡ box
  unfolding size_of
  node-whole box = div-one box

  pub digit_low : (box i : ℕ) → 1 ≤ get_or sizes i 0 → digit_of sizes box i < get_or sizes i 0
  unfolding digit_of
  digit_low box i h = mod-lt (box / size_of sizes i) h

  -- ## From a box to its digits and back
  pub digits-within : (l box : ℕ) → Filled sizes l → Within sizes l (digits sizes l box)
  unfolding digits
  digits-within zero box f = tt
  digits-within (suc i) box f = (digit_low box i (f i (omega arith)), digits-within i box (λ k h. f k (omega arith)))

  pub box-digits : (l box : ℕ) → box_of sizes l (box / size_of sizes l) (digits sizes l box) ≡ box
  unfolding digits box_of
  box-digits zero box = node-whole box
  box-digits (suc i) box = ap (λ m. box_of sizes i m (digits sizes i box)) (node-digit box i) ∙ box-digits i box

  -- ## From digits to a box and back
  pub box-node : (l node : ℕ) (p : List ℕ) → Within sizes l p → box_of sizes l node p / size_of sizes l ≡ node
  unfolding box_of
  box-node zero node [] w = node-whole node
  box-node zero node (x ∷ p) w = absurd w
  box-node (suc i) node [] w = absurd w
  box-node (suc i) node (x ∷ p) w =
      above (box_of sizes i (node * get_or sizes i 0 + x) p) i ∙ ap (◌/ get_or sizes i 0) (box-node i (node * get_or sizes i 0 + x) p w.1) ∙ div-child node x (get_or sizes i 0) w.0
    where
      div-child : (node x n : ℕ) → x < n → (node * n + x) / n ≡ node
      div-child node x n h = mul-add-div_right (let z : 1 ≤ n = omega arith in z) node x ∙ ap (node +◌) (div-eq_of_lt h) ∙ (let z : node + 0 ≡ node = omega arith in z)

  pub digits-box : (l node : ℕ) (p : List ℕ) → Within sizes l p → digits sizes l (box_of sizes l node p) ≡ p
  unfolding digits digit_of box_of
  digits-box zero node [] w = refl
  digits-box zero node (x ∷ p) w = absurd w
  digits-box (suc i) node [] w = absurd w
  digits-box (suc i) node (x ∷ p) w =
      ap₂ ◌∷◌
      (ap (◌% get_or sizes i 0) (box-node i (node * get_or sizes i 0 + x) p w.1) ∙ mul-add-mod_self_right node (get_or sizes i 0) x ∙ mod-eq_of_lt w.0)
      (digits-box i (node * get_or sizes i 0 + x) p w.1)

  -- ## Maps
  pub grid-box : (cells : List ℕ) (l node : ℕ) (p : List ℕ) → Within sizes l p → grid cells sizes l node p ≡ get_or cells (box_of sizes l node p) 0
  unfolding grid box_of
  grid-box cells zero node [] w = refl
  grid-box cells zero node (x ∷ p) w = absurd w
  grid-box cells (suc i) node [] w = absurd w
  grid-box cells (suc i) node (x ∷ p) w = ap (λ g. g p) (at-grid cells sizes i node x w.0) ∙ grid-box cells i (node * get_or sizes i 0 + x) p w.1
