-- FROM THE CODE'S NUMBERS TO POINTS AND DAYS: the groups of the cells, with their intervals taken as points and their numbers as days, are the
-- groups of the points. One use of grid's compression law.
use mathlib.Core.Path.{◌≡◌, refl, sym, ap, ap₂, ◌∙◌, subst}
use mathlib.Core.Bool.{Bool, true, false, cond}
use mathlib.Core.List.{List, [], ◌∷◌, map}
use Prim.Native.Nat.{ℕ, zero, suc, ◌+◌, ◌-◌, ◌*◌, ◌≤◌, ◌<◌}
use native.Mathlib.Omega.{arith}
use lib.Dec.{eqb, ltb}
use lib.ListN.{length, get_or}
use Rattle.laws.specs.Lists.{from, All}
use Rattle.laws.proofs.Numbers.{All-from}
use Rattle.laws.proofs.Tests.{exact-eqb}
use Rattle.grid.specs.Group.{Set, Map, at, groups}
use Rattle.grid.proofs.Image.{fines, Constants, Fills, Aparts, image, Tests, groups-image}
use Rattle.grid.proofs.Interval.{block-all}
use Rattle.grid.proofs.Number.{interval, interval-apart, interval-all}
use Rattle.paving.specs.Grid.{axes, grid, in_class}
use Rattle.paving.specs.Sweep.{classes_from, groups_from}
use Rattle.paving.proofs.Room.{at-grid}
use Rattle.paving.proofs.Sweeping.{empty-unmatched}

-- the intervals of each dimension, and all its coordinates
abbrev pub blocks : (ℕ → ℕ → ℕ) → ℕ → List (ℕ → List ℕ)
blocks cuts zero = []
blocks cuts (suc l) = interval (cuts l) ∷ blocks cuts l

abbrev pub coordinates_of : (ℕ → ℕ → ℕ) → List ℕ → ℕ → Set ℕ
coordinates_of cuts sizes zero = []
coordinates_of cuts sizes (suc l) = from (cuts l 0) (cuts l (get_or sizes l 0) - cuts l 0) ∷ coordinates_of cuts sizes l

abbrev pub Rising : (ℕ → ℕ → ℕ) → List ℕ → ℕ → Type 0
Rising cuts sizes l = (i : ℕ) → i < l → (x : ℕ) → x < get_or sizes i 0 → cuts i x < cuts i (suc x)

module _ (cuts : ℕ → ℕ → ℕ) (sizes : List ℕ) where
  pub fills : (l : ℕ) → Fills (blocks cuts l)
  fills zero = tt
  fills (suc l) = (λ a. tt, fills l)

  aparts : (l : ℕ) → Rising cuts sizes l → Aparts eqb eqb (blocks cuts l) (axes sizes l)
  unfolding axes
  aparts zero h = tt
  aparts (suc l) h = (interval-apart (cuts l) (get_or sizes l 0) (h l (omega arith)), aparts l (λ i k. h i (omega arith)))

  pub points : (l : ℕ) → Rising cuts sizes l → fines (blocks cuts l) (axes sizes l) ≡ coordinates_of cuts sizes l
  unfolding axes
  points zero h = refl
  points (suc l) h = ap₂ ◌∷◌
      (interval-all (cuts l) (get_or sizes l 0) (h l (omega arith)) 0 (get_or sizes l 0) (omega arith) ∙ ap (λ m. from (cuts l 0) (cuts l m - cuts l 0))
      (let z : 0 + get_or sizes l 0 ≡ get_or sizes l 0 = omega arith in z)) (points l (λ i k. h i (omega arith)))

-- what that law requires of the cells: at each cell the day of each of its points
abbrev pub Shows : {X : Type 0} → (ℕ → X) → (ℕ → ℕ → ℕ) → List ℕ → List ℕ → ℕ → ℕ → Map ℕ X → Type 0
Shows day cuts cells sizes zero node g = day (get_or cells node 0) ≡ g []
Shows day cuts cells sizes (suc l) node g =
    (x b : ℕ) → x < get_or sizes l 0 → cuts l x ≤ b → b < cuts l (suc x) → Shows day cuts cells sizes l (node * get_or sizes l 0 + x) (at g b)

pub shows-constants : {X : Type 0} (day : ℕ → X) (cuts : ℕ → ℕ → ℕ) (cells sizes : List ℕ) (l node : ℕ) (g : Map ℕ X) → Rising cuts sizes l
    → Shows day cuts cells sizes l node g
    → Constants day (blocks cuts l) (axes sizes l) (grid cells sizes l node) g
unfolding axes grid
shows-constants day cuts cells sizes zero node g up h = h
shows-constants day cuts cells sizes (suc l) node g up h =
    All-from (λ x. All (λ b. Constants day (blocks cuts l) (axes sizes l) (at (grid cells sizes (suc l) node) x) (at g b)) (interval (cuts l) x)) 0
    (get_or sizes l 0)
    (λ x _ k. block-all (cuts l x, cuts l (suc x)) (up l (omega arith) x (omega arith))
    (λ b. Constants day (blocks cuts l) (axes sizes l) (at (grid cells sizes (suc l) node) x) (at g b))
    (λ b lo hi. subst (λ f. Constants day (blocks cuts l) (axes sizes l) f (at g b)) (sym (at-grid cells sizes l node x (omega arith)))
    (shows-constants day cuts cells sizes l (node * get_or sizes l 0 + x) (at g b) (λ i m. up i (omega arith)) (h x b (omega arith) lo hi))))

-- every value of the map is a cell's, or 0
pub grid-values : (P : ℕ → Type 0) (cells sizes : List ℕ) → P 0 → ((k : ℕ) → P (get_or cells k 0)) → (l node : ℕ) (p : List ℕ) → P (grid cells sizes l node p)
unfolding grid
grid-values P cells sizes z h zero node [] = h node
grid-values P cells sizes z h zero node (x ∷ p) = z
grid-values P cells sizes z h (suc l) node [] = z
grid-values P cells sizes z h (suc l) node (x ∷ p) = go (ltb x (get_or sizes l 0)) (grid-values P cells sizes z h l (node * get_or sizes l 0 + x) p)
  where
    go : (b : Bool) → P (grid cells sizes l (node * get_or sizes l 0 + x) p) → P (cond b (grid cells sizes l (node * get_or sizes l 0 + x)) (λ q. 0) p)
    go true k = k
    go false k = z

-- tests of days, one for each class from k on, that say of a day what the table says of its number
abbrev pub Classed : {X : Type 0} → (ℕ → X) → (ℕ → Type 0) → List ℕ → ℕ → List (X → Bool) → Type 0
Classed day P classes k [] = Unit {0}
Classed day P classes k (u ∷ us) = ((v : ℕ) → P v → u (day v) ≡ in_class classes k v) × Classed day P classes (suc k) us

-- THE CODE'S GROUPS ARE THE POINTS' GROUPS. A day for each number, one to one where P says that it is in use; in each dimension rising
-- cuts; tests of days as the table has them; at each cell the number of the day of all its points.
pub groups-points : {X : Type 0} (day : ℕ → X) (P : ℕ → Type 0) (same_day : X → X → Bool) → ((u v : ℕ) → P u → P v → same_day (day u) (day v) ≡ eqb u v)
    → (no_day : X) → day 0 ≡ no_day → P 0 → (cuts : ℕ → ℕ → ℕ) (cells classes sizes : List ℕ) (last k l : ℕ) → Rising cuts sizes l → get_or classes 0 0 ≡ 0
    → (tests : List (X → Bool)) → k + length tests ≡ suc last → Classed day P classes k tests
    → (g : Map ℕ X) → ((j : ℕ) → P (get_or cells j 0)) → Shows day cuts cells sizes l 0 g
    → map (image day (blocks cuts l)) (groups_from cells classes sizes last k l) ≡ groups same_day eqb no_day tests (coordinates_of cuts sizes l) g
unfolding groups_from classes_from from
groups-points {X} day P same_day keeps no_day z p0 cuts cells classes sizes last k l up none tests e oks g w h =
    let n : suc last - k ≡ length tests = omega arith in
    ap (λ m. map (image day (blocks cuts l)) (groups eqb eqb 0 (map (in_class classes) (from k m)) (axes sizes l) (grid cells sizes l 0))) n
    ∙ groups-image day P eqb same_day keeps eqb eqb 0 no_day z p0 (blocks cuts l) (fills cuts sizes l) (axes sizes l) (aparts cuts sizes l up) exact-eqb exact-eqb
    (map (in_class classes) (from k (length tests))) tests (pairs k tests oks) (grid cells sizes l 0) g (grid-values P cells sizes p0 w l 0)
    (shows-constants day cuts cells sizes l 0 g up h)
    ∙ ap (λ D. groups same_day eqb no_day tests D g) (points cuts sizes l up)
  where
    pairs : (k : ℕ) (us : List (X → Bool)) → Classed day P classes k us
        → Tests day P eqb same_day keeps eqb eqb 0 no_day z p0 (blocks cuts l) (fills cuts sizes l) (axes sizes l) (aparts cuts sizes l up)
        (map (in_class classes) (from k (length us))) us
    pairs k [] c = tt
    pairs k (u ∷ us) c = (c.0, empty-unmatched classes k none, pairs (suc k) us c.1)
