-- Points, maps and groups, over any list of dimensions. 01, "From points to rules":
-- "Class after class, while a point matches: take the first by weekday, week, month, year. Grow the year set to all years with
-- that same list; then months good for all those years; then weeks; then weekdays. .. Empty the box; go on."
-- The dimensions are a parameter: the fold has four of them, a painted day has one, the minutes.
use mathlib.Core.List.{List, [], ◌∷◌, ◌++◌, map, flat_map}
use Rattle.std.proofs.Math.Option.{Option, none, some}
use Rattle.std.specs.Prelude.{Bool, true, false, ◌&&◌, cond, ℕ, zero, suc, ◌*◌, length}
use Rattle.laws.specs.Lists.{first_of, every, any_of, keep}

-- A dimension is the list of its coordinates in order; a point has one coordinate for each dimension.
-- A set has some coordinates of each dimension and stands for all points that they make together: a box.
abbrev pub Set : Type 0 → Type 0
Set A = List (List A)

-- a map gives each point a value
abbrev pub Map : Type 0 → Type 0 → Type 0
Map A W = List A → W

-- the map of the later dimensions, at a coordinate of the first
abbrev pub at : {A W : Type 0} → Map A W → A → Map A W
at f x p = f (x ∷ p)

-- how many points a set has
unfoldable pub size : {A : Type 0} → Set A → ℕ
size [] = 1
size (D ∷ Ds) = length D * size Ds

-- these points, one after the other
unfoldable pub points_of : {A : Type 0} → Set A → List (List A)
points_of [] = [] ∷ []
points_of (D ∷ Ds) = flat_map (λ x. map (x ∷◌) (points_of Ds)) D

-- does some point of the set pass?
unfoldable pub somewhere : {A : Type 0} → Set A → Map A Bool → Bool
somewhere [] t = t []
somewhere (D ∷ Ds) t = any_of (λ x. somewhere Ds (at t x)) D

-- is the point in the set?
unfoldable pub inside : {A : Type 0} → (A → A → Bool) → Set A → List A → Bool
inside same [] [] = true
inside same [] (x ∷ p) = false
inside same (E ∷ S) [] = false
inside same (E ∷ S) (x ∷ p) = any_of (same x) E && inside same S p

-- a group: a value, and a set of points that all have it
abbrev pub Group : Type 0 → Type 0 → Type 0
Group A W = W × Set A

-- ## The first group
-- `eq` tests whether two values are the same
module _ {A W : Type 0} (eq : W → W → Bool) where
  -- has every point of the set the value v?
  unfoldable pub agree : W → Set A → Map A W → Bool
  agree v [] f = eq (f []) v
  agree v (D ∷ Ds) f = every (λ x. agree v Ds (at f x)) D

  -- a group of the later dimensions, grown by this one: by all coordinates at which every point of it has the value
  unfoldable pub grow : List A → Map A W → Option (Group A W) → Option (Group A W)
  grow D f none = none
  grow D f (some g) = some (g.0, keep (λ x. agree g.0 g.1 (at f x)) D ∷ g.1)

  -- The group of the first point that passes, first by the first dimension. The last dimension is grown first, the first one last.
  -- 01's wrong reading: "Growing weekdays before years: other boxes come out."
  unfoldable pub pop : (W → Bool) → Set A → Map A W → Option (Group A W)
  pop ok [] f = elim (ok (f [])) [ true ↦ some (f [], []) | false ↦ none ]
  pop ok (D ∷ Ds) f = grow D f (first_of (λ x. pop ok Ds (at f x)) D)

-- ## Emptying
-- `same` tests whether two coordinates are the same; `empty` is the value of emptied points
module _ {A W : Type 0} (same : A → A → Bool) (empty : W) where
  -- the map with the set's points emptied
  unfoldable pub clear : Set A → Map A W → Map A W
  clear [] f [] = empty
  clear [] f (x ∷ p) = f (x ∷ p)
  clear (E ∷ S) f [] = f []
  clear (E ∷ S) f (x ∷ p) = cond (any_of (same x) E) (clear S (at f x)) (at f x) p

-- ## Class after class
module _ {A W : Type 0} (eq : W → W → Bool) (same : A → A → Bool) (empty : W) where
  -- groups, and the map that is left
  abbrev pub Swept : Type 0
  Swept = List (Group A W) × Map A W

  -- the group, where one was found, and then those of the map without it
  unfoldable pub take_out : Map A W → (Map A W → Swept) → Option (Group A W) → Swept
  take_out f rest none = ([], f)
  take_out f rest (some g) = let r = rest (clear same empty g.1 f) in (g ∷ r.0, r.1)

  -- while a point matches, n times at most: pop its group and empty it
  unfoldable pub sweep_for : ℕ → (W → Bool) → Set A → Map A W → Swept
  sweep_for zero ok Ds f = ([], f)
  sweep_for (suc n) ok Ds f = take_out f (λ f'. sweep_for n ok Ds f') (pop eq ok Ds f)

  -- as often as there are points is enough: each group empties one at least
  unfoldable pub sweep : (W → Bool) → Set A → Map A W → Swept
  sweep ok Ds f = sweep_for (size Ds) ok Ds f

  unfoldable pub groups : List (W → Bool) → Set A → Map A W → List (Group A W)
  groups [] Ds f = []
  groups (ok ∷ oks) Ds f = let r = sweep ok Ds f in r.0 ++ groups oks Ds r.1
