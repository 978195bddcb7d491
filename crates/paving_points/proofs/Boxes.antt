-- The points of a box: what grid's laws and the law of popped groups require of each box and each of its points; and all points of a box have
-- the marks of its first one. Rests on the rows' laws.
use mathlib.Core.Path.{◌≡◌, refl, sym, ap, ap₂, ◌∙◌}
use mathlib.Core.Bool.{Bool, true, false}
use mathlib.Core.List.{List, [], ◌∷◌, map}
use Prim.Native.Nat.{ℕ, zero, suc, ◌+◌, ◌*◌, ◌≤◌, ◌<◌}
use native.Mathlib.Omega.{arith}
use lib.Dec.{eqb}
use lib.ListN.{length, get_or}
use borrow.Author.Tests.{eqb-true, eqb-false}
use Rattle.laws.specs.Lists.{All}
use Rattle.laws.proofs.Numbers.{All-from}
use Rattle.grid.specs.Group.{Map, at, somewhere}
use Rattle.grid.specs.Cut.{coordinates}
use Rattle.grid.proofs.Image.{fines, Constants, somewhere-image}
use Rattle.grid.proofs.Interval.{block-all}
use Rattle.grid.proofs.Number.{interval}
use Rattle.grid.proofs.Cut.{Inside}
use Rattle.grid.proofs.Box.{Proper, SameMarks}
use Rattle.grid.proofs.Box as grid-box
use Rattle.definition.specs.Rule.{Rule}
use Rattle.definition.specs.Point.{Dimension, dimensions}
use Rattle.definition.specs.Box.{all_ranges}
use Rattle.definition.proofs.FoldBox.{bounds-proper, lawful-within}
use Rattle.definition.proofs.Lawful.{Lawful}
use Rattle.paving.specs.Grid.{axes}
use Rattle.paving.proofs.Points.{blocks, coordinates_of, Rising, fills, points, Shows}
use Rattle.tables.specs.Cuts.{cut_of, CutBy}
use Rattle.tables.specs.Lists.{Within, box_of, start_of}
use Rattle.paving_points.proofs.Rows.{row-rises, row-marks, row-all}

-- q is a point of the box p
abbrev pub Under : (ℕ → ℕ → ℕ) → ℕ → List ℕ → List ℕ → Type 0
Under cut zero p q = Unit {0}
Under cut (suc i) [] q = ⊥
Under cut (suc i) (x ∷ p) [] = ⊥
Under cut (suc i) (x ∷ p) (y ∷ q) = (cut i x ≤ y) × (y < cut i (suc x)) × Under cut i p q

-- ## What holds at each box and each of its points
module _ (cut : ℕ → ℕ → ℕ) (sizes : List ℕ) where
  pub boxes-constant : {W X : Type 0} (r : W → X) (l : ℕ) → Rising cut sizes l → (f : Map ℕ W) (g : Map ℕ X)
      → ((p q : List ℕ) → Within sizes l p → Under cut l p q → r (f p) ≡ g q) → Constants r (blocks cut l) (axes sizes l) f g
  unfolding axes
  boxes-constant r zero up f g h = h [] [] tt tt
  boxes-constant r (suc i) up f g h =
      All-from (λ x. All (λ y. Constants r (blocks cut i) (axes sizes i) (at f x) (at g y)) (interval (cut i) x)) 0 (get_or sizes i 0)
      (λ x _ k. block-all (cut i x, cut i (suc x)) (up i (omega arith) x (omega arith)) (λ y. Constants r (blocks cut i) (axes sizes i) (at f x) (at g y))
      (λ y lo hi. boxes-constant r i (λ j m. up j (omega arith)) (at f x) (at g y) (λ p q w u. h (x ∷ p) (y ∷ q) (omega arith, w) (lo, hi, u))))

  pub boxes-shown : {X : Type 0} (day : ℕ → X) (cells : List ℕ) (l node : ℕ) (g : Map ℕ X)
      → ((p q : List ℕ) → Within sizes l p → Under cut l p q → day (get_or cells (box_of sizes l node p) 0) ≡ g q) → Shows day cut cells sizes l node g
  unfolding box_of
  boxes-shown day cells zero node g h = h [] [] tt tt
  boxes-shown day cells (suc i) node g h =
      λ x y k lo hi. boxes-shown day cells i (node * get_or sizes i 0 + x) (at g y) (λ p q w u. h (x ∷ p) (y ∷ q) (k, w) (lo, hi, u))

  -- some box passes just where some point does
  pub somewhere-points : (l : ℕ) → Rising cut sizes l → (f g : Map ℕ Bool) → ((p q : List ℕ) → Within sizes l p → Under cut l p q → f p ≡ g q)
      → somewhere (axes sizes l) f ≡ somewhere (coordinates_of cut sizes l) g
  somewhere-points l up f g h =
      somewhere-image (blocks cut l) (fills cut sizes l) (axes sizes l) f g (boxes-constant (λ v. v) l up f g h) ∙ ap (λ D. somewhere D g) (points cut sizes l up)

-- ## Between the cuts of rules
-- dimensions whose bounds are in order, and rules whose ranges lie between them
abbrev pub Bounded : List Rule → List Dimension → Type 0
Bounded rs = All (λ d. (d.bounds.0 < d.bounds.1) × All (Inside d.bounds) (all_ranges rs d))

pub lawful-bounded : (rs : List Rule) → All Lawful rs → Bounded rs dimensions
lawful-bounded rs h = go dimensions bounds-proper (lawful-within rs h)
  where
    go : (ds : List Dimension) → Proper (map (λ d. d.bounds) ds) → grid-box.Within (map (λ d. d.bounds) ds) (map (all_ranges rs) ds) → Bounded rs ds
    go [] o w = tt
    go (d ∷ ds) o w = ((o.0, w.0), go ds o.1 w.1)

module _ (rows sizes table : List ℕ) (rs : List Rule) where
  pub cuts-rise : (ds : List Dimension) → CutBy rows sizes table rs ds → Bounded rs ds → Rising (cut_of rows table) sizes (length ds)
  cuts-rise [] c b = λ i h. absurd (omega arith)
  cuts-rise (d ∷ ds) c b = λ i h. go i h (eqb i (length ds)) refl (cuts-rise ds c.1 b.1 i)
    where
      go : (i : ℕ) → i < suc (length ds) → (t : Bool) → eqb i (length ds) ≡ t → (i < length ds → (x : ℕ) → x < get_or sizes i 0 → cut_of rows table i x < cut_of rows table i (suc x))
          → (x : ℕ) → x < get_or sizes i 0 → cut_of rows table i x < cut_of rows table i (suc x)
      go i h true e ih = rw (eqb-true i (length ds) e) (row-rises rows sizes table (length ds) d.bounds b.0.0 (all_ranges rs d) b.0.1 c.0)
      go i h false e ih = ih (omega (arith, eqb-false i (length ds) e))

  -- the intervals have all coordinates of all dimensions
  cuts-all : (ds : List Dimension) → CutBy rows sizes table rs ds → Bounded rs ds
      → fines (blocks (cut_of rows table) (length ds)) (axes sizes (length ds)) ≡ map (λ d. coordinates d.bounds) ds
  unfolding axes
  cuts-all [] c b = refl
  cuts-all (d ∷ ds) c b = ap₂ ◌∷◌ (row-all rows sizes table (length ds) d.bounds b.0.0 (all_ranges rs d) b.0.1 c.0) (cuts-all ds c.1 b.1)

  pub cuts-points : (ds : List Dimension) → CutBy rows sizes table rs ds → Bounded rs ds
      → coordinates_of (cut_of rows table) sizes (length ds) ≡ map (λ d. coordinates d.bounds) ds
  cuts-points ds c b = sym (points (cut_of rows table) sizes (length ds) (cuts-rise ds c b)) ∙ cuts-all ds c b

  -- THE POINTS OF A BOX have the marks of its first one
  pub box-marks : (ds : List Dimension) → CutBy rows sizes table rs ds → Bounded rs ds → (p q : List ℕ) → Within sizes (length ds) p → Under (cut_of rows table) (length ds) p q
      → SameMarks (map (all_ranges rs) ds) (start_of rows table (length ds) p) q
  unfolding start_of
  box-marks [] c b p q w u = tt
  box-marks (d ∷ ds) c b [] q w u = absurd w
  box-marks (d ∷ ds) c b (x ∷ p) [] w u = absurd u
  box-marks (d ∷ ds) c b (x ∷ p) (y ∷ q) w u = (
    row-marks rows sizes table (length ds) d.bounds b.0.0 (all_ranges rs d) b.0.1 c.0 x w.0 y u.0 u.1,
    box-marks ds c.1 b.1 p q w.1 u.2,
  )
