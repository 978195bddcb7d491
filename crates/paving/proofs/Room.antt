-- The columns' laws: the columns of a node, one after the other; and where a node's cells and marks are all there, those of its children are.
use mathlib.Core.Path.{◌≡◌, refl, sym, ap, ap₂, ◌∙◌}
use mathlib.Core.Bool.{Bool, true, false, ◌&&◌, cond}
use mathlib.Core.List.{List, [], ◌∷◌}
use Prim.Native.Nat.{ℕ, zero, suc, ◌+◌, ◌-◌, ◌*◌, ◌≤◌, ◌<◌}
use native.Mathlib.Omega.{arith}
use native.Mathlib.Nat.{mul-le-mul_right, le-mul_of_pos_right, mul-pos, mul_assoc}
use lib.Dec.{eqb, ltb}
use lib.ListN.{get_or}
use borrow.Author.Tests.{lt-ltb, eq-eqb, ne_eqb, ltb-true, ltb-false, eqb-true, eqb-false}
use Rattle.laws.specs.Lists.{from, keep}
use Rattle.grid.specs.Group.{at}
use Rattle.paving.specs.Grid.{Node, Room, size_of, width_of, grid, marks_from}

pub from_cons : (j n : ℕ) → j < n → from j (n - j) ≡ j ∷ from (j + 1) (n - (j + 1))
unfolding from
from_cons j n h =
    let e : n - j ≡ suc (n - (j + 1)) = omega arith in
    let q : suc j ≡ j + 1 = omega arith in
    ap (from j) e ∙ ap (λ k. j ∷ from k (n - (j + 1))) q

pub from_end : (j n : ℕ) → n ≤ j → from j (n - j) ≡ []
unfolding from
from_end j n h = let e : n - j ≡ 0 = omega arith in ap (from j) e

pub marks-out : (marks : List ℕ) (base n j : ℕ) → j < n → (get_or marks (base + j) 0 ≡ 1 → ⊥) → marks_from marks base n j ≡ marks_from marks base n (j + 1)
unfolding marks_from keep
marks-out marks base n j h e = rw (from_cons j n h, ne_eqb _ _ e, keep)

pub at-grid : (cells sizes : List ℕ) (i node x : ℕ) → x < get_or sizes i 0 → at (grid cells sizes (suc i) node) x ≡ grid cells sizes i (node * get_or sizes i 0 + x)
unfolding grid
at-grid cells sizes i node x h = ap (λ b. cond b (grid cells sizes i (node * get_or sizes i 0 + x)) (λ q. 0)) (lt-ltb x (get_or sizes i 0) h)

pub size-pos : (sizes : List ℕ) (l : ℕ) → ((k : ℕ) → k < l → 1 ≤ get_or sizes k 0) → 1 ≤ size_of sizes l
unfolding size_of
size-pos sizes zero h = omega arith
size-pos sizes (suc l) h = mul-pos (h l (omega arith)) (size-pos sizes l (λ k lt. h k (omega arith)))

module _ (len : ℕ) (sizes : List ℕ) where
  pub node_in : (l node : ℕ) → Node len sizes l node → node < len
  node_in l node r =
      let a : node + 1 ≤ (node + 1) * size_of sizes l = le-mul_of_pos_right (node + 1) (size-pos sizes l r.filled) in
      let b = r.below in
      omega arith

  pub node-child : (i node n j : ℕ) → n ≡ get_or sizes i 0 → j < n → Node len sizes (suc i) node → Node len sizes i (node * n + j)
  unfolding size_of
  node-child i node n j e h r =
      let m = get_or sizes i 0 in
      let s = size_of sizes i in
      let a : node * n + j + 1 ≤ (node + 1) * n = omega arith in
      let b : (node * n + j + 1) * s ≤ (node + 1) * n * s = mul-le-mul_right s a in
      let c : (node + 1) * n * s ≡ (node + 1) * (m * s) = mul_assoc (node + 1) n s ∙ ap (λ k. (node + 1) * (k * s)) e in
      let d = r.below in
      let q = r.dims in
      record { dims = omega arith; filled = λ k lt. r.filled k (omega arith); below = omega arith }

-- a number below m has one quotient and one rest
pub number-eq : (m d c x y : ℕ) → x < m → y < m → eqb (d * m + x) (c * m + y) ≡ eqb d c && eqb x y
number-eq m d c x y h k = go (eqb d c) refl (eqb x y) refl
  where
    less : (d c x y : ℕ) → x < m → d < c → d * m + x ≡ c * m + y → ⊥
    less d c x y h l q = let a : (d + 1) * m ≤ c * m = mul-le-mul_right m (omega arith) in omega arith

    apart : (d c x y : ℕ) → x < m → y < m → (d ≡ c → ⊥) → (b : Bool) → ltb d c ≡ b → d * m + x ≡ c * m + y → ⊥
    apart d c x y h k ne true t q = less d c x y h (ltb-true d c t) q
    apart d c x y h k ne false t q = less c d y x k (omega (arith, ltb-false d c t, ne)) (sym q)

    go : (b : Bool) → eqb d c ≡ b → (b' : Bool) → eqb x y ≡ b' → eqb (d * m + x) (c * m + y) ≡ b && b'
    go true p true q = eq-eqb (d * m + x) (c * m + y) (ap₂ (λ u w. u * m + w) (eqb-true d c p) (eqb-true x y q))
    go true p false q = ne_eqb (d * m + x) (c * m + y) (λ z. eqb-false x y q (let r : d * m ≡ c * m = ap (λ u. u * m) (eqb-true d c p) in omega arith))
    go false p true q = ne_eqb (d * m + x) (c * m + y) (apart d c x y h k (eqb-false d c p) (ltb d c) refl)
    go false p false q = ne_eqb (d * m + x) (c * m + y) (apart d c x y h k (eqb-false d c p) (ltb d c) refl)

-- the same room where a length is another one's equal
pub room-len : (len n places : ℕ) (sizes : List ℕ) (l node base : ℕ) → n ≡ len → Room len places sizes l node base → Room n places sizes l node base
room-len len n places sizes l node base e r = rw e r

pub room-len₂ : (len m places : ℕ) (sizes : List ℕ) (l node base : ℕ) → m ≡ places → Room len places sizes l node base → Room len m sizes l node base
room-len₂ len m places sizes l node base e r = rw e r

module _ (len places : ℕ) (sizes : List ℕ) where
  pub room-node : (l node base : ℕ) → Room len places sizes l node base → node < len
  room-node l node base r = node_in len sizes l node r.column

  pub room-child : (i node base n j : ℕ) → n ≡ get_or sizes i 0 → j < n → Room len places sizes (suc i) node base
      → Room len places sizes i (node * n + j) (base + n)
  unfolding width_of
  room-child i node base n j e h r = let w = r.marked in record { column = node-child len sizes i node n j e h r.column; marked = omega arith }

  pub room-width : (i node base n : ℕ) → n ≡ get_or sizes i 0 → Room len places sizes (suc i) node base → base + n + width_of sizes i ≤ places
  unfolding width_of
  room-width i node base n e r = let w = r.marked in omega arith

  pub room-marks : (i node base n : ℕ) → n ≡ get_or sizes i 0 → Room len places sizes (suc i) node base → base + n ≤ places
  room-marks i node base n e r = omega (arith, room-width i node base n e r)

  pub room-size : (l node base : ℕ) → Room len places sizes l node base → size_of sizes l ≤ len
  room-size l node base r =
      let a : 1 * size_of sizes l ≤ (node + 1) * size_of sizes l = mul-le-mul_right (size_of sizes l) (omega arith) in
      omega (arith, a, r.column.below)
