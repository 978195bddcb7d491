-- The loop over the groups of a grid of cells, class after class, and a state that takes in one group after the other.
use Rattle.std.specs.Prelude.{◌≡◌, Bool, List, [], ◌∷◌, map, ℕ, suc, ◌-◌, ◌≤◌, eqb}
use Rattle.laws.specs.Lists.{from}
use Rattle.grid.specs.Group.{Set, Map, Group, Swept, sweep, groups}
use Rattle.paving.specs.Grid.{axes, grid, in_class, mark_set}

-- what one class gives, and what is left of the map
unfoldable pub swept : List ℕ → List ℕ → List ℕ → ℕ → ℕ → Swept {A = ℕ} eqb eqb 0
swept cells classes sizes k l = sweep eqb eqb 0 (in_class classes k) (axes sizes l) (grid cells sizes l 0)

-- the tests of the classes from k up to the last
unfoldable pub classes_from : List ℕ → ℕ → ℕ → List (ℕ → Bool)
classes_from classes last k = map (in_class classes) (from k (suc last - k))

-- the groups of these classes, one after the other
unfoldable pub groups_from : List ℕ → List ℕ → List ℕ → ℕ → ℕ → ℕ → List (Group ℕ ℕ)
groups_from cells classes sizes last k l = groups eqb eqb 0 (classes_from classes last k) (axes sizes l) (grid cells sizes l 0)

-- a state after some groups, each taken in by `emit`: whatever writes a group
unfoldable pub emitted : {S : Type 0} → (S → Group ℕ ℕ → S) → S → List (Group ℕ ℕ) → S
emitted emit s [] = s
emitted emit s (g ∷ gs) = emitted emit (emit s g) gs

-- ## What becomes of the cells and the marks
-- what is left of a map after some classes, and of the cells after the classes from k up to the last
unfoldable pub left_after : List (ℕ → Bool) → Set ℕ → Map ℕ ℕ → Map ℕ ℕ
left_after [] Ds f = f
left_after (ok ∷ oks) Ds f = left_after oks Ds (sweep eqb eqb 0 ok Ds f).1

unfoldable pub left_from : List ℕ → List ℕ → List ℕ → ℕ → ℕ → ℕ → Map ℕ ℕ
left_from cells classes sizes last k l = left_after (classes_from classes last k) (axes sizes l) (grid cells sizes l 0)

-- a group's marks, written over what stood there
unfoldable pub mark_group : List ℕ → ℕ → List ℕ → Group ℕ ℕ → List ℕ
mark_group sizes l marks g = mark_set sizes l 0 g.1 marks

-- some groups taken out of a grid: each was marked, a map is left of the cells below node 0, and all other cells are as they were
pub record TakenOut (sizes : List ℕ) (l : ℕ) (cells marks cells₁ marks₁ : List ℕ) (gs : List (Group ℕ ℕ)) (f : Map ℕ ℕ) : Type 0 where
  pub marked : marks₁ ≡ emitted (mark_group sizes l) marks gs
  pub left : grid cells₁ sizes l 0 ≡ f
  pub elsewhere : (d : ℕ) → 1 ≤ d → grid cells₁ sizes l d ≡ grid cells sizes l d
