-- The box that holds a point: between which cuts each number of the point lies.
use Rattle.std.specs.Prelude.{◌≡◌, List, [], ◌∷◌, ℕ, zero, suc, ◌+◌, ◌*◌, ◌≤◌, ◌<◌, length, get_or}
use Rattle.grid.specs.Cut.{Range}
use Rattle.definition.specs.Sheet.{sheet_limits}
use Rattle.paving.specs.Grid.{size_of, Node}
use Rattle.tables.specs.Cuts.{cut_of}
use Rattle.tables.specs.Lists.{box_of}
use Rattle.calendar.specs.Dated.{point_list}
use Rattle.state_at.specs.declared.Moment.{Moment}

-- the point of a moment, weekdays first
abbrev pub moment_point : Moment → List ℕ
moment_point m = point_list m.point

-- each number of a point lies in its dimension's bounds
abbrev pub InBounds : List Range → List ℕ → Type 0
InBounds [] [] = Unit {0}
InBounds [] (y ∷ q) = ⊥
InBounds (b ∷ bs) [] = ⊥
InBounds (b ∷ bs) (y ∷ q) = (b.0 ≤ y) × (y < b.1) × InBounds bs q

module _ (rows sizes cuts : List ℕ) where
  -- ## A dimension
  -- a row of cuts around a value
  pub record Framed (i y : ℕ) : Type 0 where
    pub row-there : i < length rows
    pub inside : get_or rows i 0 + get_or sizes i 0 < length cuts
    pub filled : 1 ≤ get_or sizes i 0
    pub from_first : cut_of rows cuts i 0 ≤ y
    pub to_last : y < cut_of rows cuts i (get_or sizes i 0)

  -- an interval holds a value
  abbrev pub Holds : ℕ → ℕ → ℕ → Type 0
  Holds i x y = (x < get_or sizes i 0) × (cut_of rows cuts i x ≤ y) × (y < cut_of rows cuts i (suc x))

  -- the node below a node in the interval that holds a value
  pub record ChildAt (i node y child : ℕ) : Type 0 where
    pub column : ℕ
    pub held : Holds i column y
    pub numbered : child ≡ node * get_or sizes i 0 + column
    pub below : Node (size_of sizes 4) sizes i child

  -- ## All dimensions
  abbrev pub AllFramed : ℕ → List ℕ → Type 0
  AllFramed zero [] = Unit {0}
  AllFramed zero (y ∷ q) = ⊥
  AllFramed (suc i) [] = ⊥
  AllFramed (suc i) (y ∷ q) = Framed i y × AllFramed i q

  abbrev pub AllHold : ℕ → List ℕ → List ℕ → Type 0
  AllHold zero [] [] = Unit {0}
  AllHold zero [] (y ∷ q) = ⊥
  AllHold zero (x ∷ p) q = ⊥
  AllHold (suc i) [] q = ⊥
  AllHold (suc i) (x ∷ p) [] = ⊥
  AllHold (suc i) (x ∷ p) (y ∷ q) = Holds i x y × AllHold i p q

  -- a grid of few boxes around a point
  pub record Gridded (q : List ℕ) : Type 0 where
    pub top : Node (size_of sizes 4) sizes 4 0
    pub few : size_of sizes 4 ≤ sheet_limits.boxes
    pub framed : AllFramed 4 q

  -- THE BOX OF A POINT
  pub record BoxAt (q : List ℕ) (box : ℕ) : Type 0 where
    pub columns : List ℕ
    pub held : AllHold 4 columns q
    pub numbered : box ≡ box_of sizes 4 0 columns
    pub there : box < size_of sizes 4
