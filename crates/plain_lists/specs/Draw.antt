-- A rule put into the lists, at one box and at all that it covers.
use Rattle.std.specs.Prelude.{◌≡◌, Bool, true, false, not, List, [], ◌∷◌, ◌++◌, ℕ, ◌+◌, ◌*◌, ◌≤◌, ◌<◌, ltb, length}
use Rattle.definition.specs.Sheet.{sheet_limits}
use Rattle.tables.specs.Sizes.{list_limit, list_places}
use Rattle.tables.specs.Lists.{list_of}
use Rattle.tables.specs.Plain.{base, plain_step, some_overfull}

-- a box that has a place, and a list that is not too long
pub record HasList (lists : List ℕ) (box : ℕ) : Type 0 where
  pub room : box * list_places + list_places ≤ length lists
  pub short : length (list_of lists box) ≤ list_limit

-- so many boxes, as the limit allows, that have lists
pub record HaveLists (lists : List ℕ) (boxes : ℕ) : Type 0 where
  pub few-boxes : boxes ≤ sheet_limits.boxes
  pub each : (box : ℕ) → box < boxes → HasList lists box

-- THE RULE AT A BOX: whether its list had room; then the rule stands at its end, or alone where it replaces, and the other lists are as they were
pub record Appended (lists lists' : List ℕ) (box rule : ℕ) (replaces room : Bool) : Type 0 where
  pub told : room ≡ ltb (length (base replaces (list_of lists box))) list_limit
  pub ended : room ≡ true → list_of lists' box ≡ base replaces (list_of lists box) ++ (rule ∷ [])
  pub others : (other : ℕ) → (other ≡ box → ⊥) → length (list_of lists other) ≤ list_limit → list_of lists' other ≡ list_of lists other
  pub full : room ≡ false → lists' ≡ lists

-- THE RULE AT ALL BOXES: whether every list had room; then each box has the list after the plain step
pub record Drew (lists lists' : List ℕ) (boxes rule : ℕ) (replaces : Bool) (covered : ℕ → Bool) (room : Bool) : Type 0 where
  pub told : room ≡ not (some_overfull replaces covered (list_of lists) boxes)
  pub shows : room ≡ true → (box : ℕ) → box < boxes → list_of lists' box ≡ plain_step replaces rule covered (list_of lists) box
