-- A grid of any number of dimensions in one flat list of cells. The sizes stand last dimension first; of a node c with n children, child j is
-- the node c * n + j.
use Rattle.std.specs.Prelude.{◌≡◌, Bool, false, cond, List, [], ◌∷◌, ℕ, zero, suc, ◌+◌, ◌-◌, ◌*◌, ◌≤◌, ◌<◌, eqb, ltb, leb, length, get_or, set}
use Rattle.std.proofs.Math.Option.{Option, none, some}
use Rattle.laws.specs.Lists.{from, first_of, any_of, keep}
use Rattle.grid.specs.Group.{Set, Map, at, Group, agree, pop, clear}

-- how many cells lie below a node with l dimensions left, and how many intervals these dimensions have
unfoldable pub size_of : List ℕ → ℕ → ℕ
size_of sizes zero = 1
size_of sizes (suc l) = get_or sizes l 0 * size_of sizes l

unfoldable pub width_of : List ℕ → ℕ → ℕ
width_of sizes zero = 0
width_of sizes (suc l) = get_or sizes l 0 + width_of sizes l

-- a node whose cells are all there
pub record Node (cells : ℕ) (sizes : List ℕ) (l node : ℕ) : Type 0 where
  pub dims : l ≤ length sizes
  pub filled : (k : ℕ) → k < l → 1 ≤ get_or sizes k 0
  pub below : (node + 1) * size_of sizes l ≤ cells

-- and whose marks, one for each interval, are all there from a place on
pub record Room (cells places : ℕ) (sizes : List ℕ) (l node base : ℕ) : Type 0 where
  pub column : Node cells sizes l node
  pub marked : base + width_of sizes l ≤ places

-- the coordinates of l dimensions: interval numbers
unfoldable pub axes : List ℕ → ℕ → Set ℕ
axes sizes zero = []
axes sizes (suc l) = from 0 (get_or sizes l 0) ∷ axes sizes l

-- the map that the cells below a node hold, 0 elsewhere
unfoldable pub grid : List ℕ → List ℕ → ℕ → ℕ → Map ℕ ℕ
grid cells sizes zero node [] = get_or cells node 0
grid cells sizes zero node (x ∷ p) = 0
grid cells sizes (suc l) node [] = 0
grid cells sizes (suc l) node (x ∷ p) = cond (ltb x (get_or sizes l 0)) (grid cells sizes l (node * get_or sizes l 0 + x)) (λ q. 0) p

-- the marked intervals of a dimension from x on, and the set that the marks from base on stand for
unfoldable pub marks_from : List ℕ → ℕ → ℕ → ℕ → List ℕ
marks_from marks base n x = keep (λ y. eqb (get_or marks (base + y) 0) 1) (from x (n - x))

unfoldable pub chosen : List ℕ → List ℕ → ℕ → ℕ → Set ℕ
chosen marks sizes zero base = []
chosen marks sizes (suc l) base = marks_from marks base (get_or sizes l 0) 0 ∷ chosen marks sizes l (base + get_or sizes l 0)

-- The test of a class. The classes of the values stand in a table: 1 all Open, 2 first Open, 3 all Unknown, 4 first Unknown, 5 any other, 0
-- none. First Open takes in all Open, first Unknown all Unknown, any other everything: as the definition's classes do.
unfoldable pub lowest_class : ℕ → ℕ
lowest_class k = cond (ltb k 3) 1 (cond (ltb k 5) 3 1)

unfoldable pub in_class : List ℕ → ℕ → ℕ → Bool
in_class classes k v = cond (ltb (get_or classes v 0) (lowest_class k)) false (leb (get_or classes v 0) k)

-- the first group of a class below a node
unfoldable pub pop_at : List ℕ → List ℕ → List ℕ → ℕ → ℕ → ℕ → Option (Group ℕ ℕ)
pop_at cells classes sizes k l node = pop eqb (in_class classes k) (axes sizes l) (grid cells sizes l node)

-- a group by its value, if there is one, and the set of the marks
unfoldable pub popped : Option ℕ → Set ℕ → Option (Group ℕ ℕ)
popped (some v) S = some (v, S)
popped none S = none

-- no cell from the first one up to the second, excluded, passes
unfoldable pub NoneFrom : List ℕ → (ℕ → Bool) → ℕ → ℕ → Type 0
NoneFrom cells ok first end = (q : ℕ) → first ≤ q → q < end → ok (get_or cells q 0) ≡ false

-- ## The walks over the columns from j on of a node with suc i dimensions left
module _ (cells sizes : List ℕ) (i node : ℕ) where
  -- the first column's group
  unfoldable pub pop_from : (ℕ → Bool) → ℕ → Option (Group ℕ ℕ)
  pop_from ok j = first_of (λ x. pop eqb ok (axes sizes i) (at (grid cells sizes (suc i) node) x)) (from j (get_or sizes i 0 - j))

  -- is a column good for the value v and the marks of the later dimensions?
  unfoldable pub good_at : List ℕ → ℕ → ℕ → ℕ → Bool
  good_at marks base v x = agree eqb v (chosen marks sizes i (base + get_or sizes i 0)) (at (grid cells sizes (suc i) node) x)

-- 1 or 0 at each place from base + j on for r columns, by a test
unfoldable pub paint : (ℕ → Bool) → ℕ → ℕ → ℕ → List ℕ → List ℕ
paint t base j zero s = s
paint t base j (suc r) s = paint t base (j + 1) r (set s (base + j) (cond (t j) 1 0))

-- the marks of a set, written dimension after dimension, and those of a group, if there is one
unfoldable pub mark_set : List ℕ → ℕ → ℕ → Set ℕ → List ℕ → List ℕ
mark_set sizes zero base S s = s
mark_set sizes (suc l) base [] s = s
mark_set sizes (suc l) base (E ∷ S) s = paint (λ x. any_of (eqb x) E) base 0 (get_or sizes l 0) (mark_set sizes l (base + get_or sizes l 0) S s)

unfoldable pub marked : List ℕ → ℕ → ℕ → Option (Group ℕ ℕ) → List ℕ → List ℕ
marked sizes l base none s = s
marked sizes l base (some g) s = mark_set sizes l base g.1 s

-- a group's value, if there is one
unfoldable pub answer : Option (Group ℕ ℕ) → Option ℕ
answer none = none
answer (some g) = some g.0

-- `after` is `cells` with a set below a node emptied, as seen from every node with l dimensions left
abbrev pub Cleared : List ℕ → List ℕ → List ℕ → ℕ → ℕ → Set ℕ → Type 0
Cleared cells after sizes l node S = (d : ℕ) → grid after sizes l d ≡ cond (eqb d node) (clear eqb 0 S (grid cells sizes l d)) (grid cells sizes l d)
