-- The boxes of a set, listed one after the other; and a list of boxes moved along a dimension.
use Rattle.std.specs.Prelude.{◌≡◌, Bool, true, false, cond, ℕ, zero, suc, ◌+◌, ◌-◌, ◌*◌, ◌≤◌, ◌<◌, eqb, length, get_or, set, take}
use mathlib.Core.List.{List, [], ◌∷◌, ◌++◌, map, flat_map}
use Rattle.laws.specs.Lists.{from, every, any_of, keep, All}
use Rattle.grid.specs.Group.{Set}
use Rattle.paving.specs.Grid.{paint}

-- the boxes of a set of the last l dimensions, below a node
unfoldable pub boxes_of : List ℕ → ℕ → ℕ → Set ℕ → List ℕ
boxes_of sizes zero node S = node ∷ []
boxes_of sizes (suc i) node [] = []
boxes_of sizes (suc i) node (E ∷ S) = flat_map (λ x. boxes_of sizes i (node * get_or sizes i 0 + x) S) E

-- have all of some boxes the value?
unfoldable pub all_are : List ℕ → ℕ → List ℕ → Bool
all_are cells v boxes = every (λ b. eqb (get_or cells b 0) v) boxes

-- what a cell has once some boxes are emptied
unfoldable pub emptied_at : List ℕ → List ℕ → ℕ → ℕ
emptied_at cells boxes q = cond (any_of (eqb q) boxes) 0 (get_or cells q 0)

-- ## Along a dimension
-- each box so many boxes up
abbrev pub up : ℕ → List ℕ → List ℕ
up shift boxes = map (λ b. b + shift) boxes

-- from the column `own` to the column x, where neighbouring columns are `step` boxes apart
unfoldable pub moved : ℕ → ℕ → List ℕ → ℕ → List ℕ
moved step own boxes x = map (λ b. b + x * step - own * step) boxes

-- is a column good for the value: have the boxes, moved there, all the value?
unfoldable pub good_for : List ℕ → ℕ → ℕ → ℕ → List ℕ → ℕ → Bool
good_for cells v step own boxes x = all_are cells v (moved step own boxes x)

-- one column looked at: it is marked by whether it is good, and its boxes are listed if it is; the first boxes stay
pub record Looked (marks boxes : List ℕ) (count listed place : ℕ) (column : List ℕ) (good : Bool) (marks' boxes' : List ℕ) (r : ℕ) : Type 0 where
  pub painted : marks' ≡ set marks place (cond good 1 0)
  pub lists : take r boxes' ≡ take listed boxes ++ cond good column []
  pub stay : take count boxes' ≡ take count boxes
  pub more : listed ≤ r
  pub few : r ≤ listed + count

-- boxes that can be grown: they have the value, in no column before their own have they it, and in every column there are such
pub record Growing (cells : List ℕ) (places room : ℕ) (boxes : List ℕ) (v base width own step : ℕ) : Type 0 where
  pub some : 1 ≤ length boxes
  pub in-width : own < width
  pub marked : base + width ≤ places
  pub listed : length boxes * width ≤ room
  pub numbered : length cells ≤ 65536
  pub apart : width * step ≤ length cells
  pub there : (x : ℕ) → x < width → All (λ b. b < length cells) (moved step own boxes x)
  pub before : (x : ℕ) → x < own → good_for cells v step own boxes x ≡ false
  pub here : good_for cells v step own boxes own ≡ true

-- and grown: the good columns are marked, and the boxes of these columns listed, those of the first one first
pub record Grown (cells marks boxes : List ℕ) (v base width own step : ℕ) (marks' boxes' : List ℕ) : Type 0 where
  pub painted : marks' ≡ paint (good_for cells v step own boxes) base 0 width marks
  pub listed : boxes' ≡ flat_map (moved step own boxes) (keep (good_for cells v step own boxes) (from 0 width))
  pub few : length boxes' ≤ length boxes * width
  pub more : length boxes ≤ length boxes'
  pub first : get_or boxes' 0 0 ≡ get_or boxes 0 0
