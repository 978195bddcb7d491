-- The lists of the boxes, each kept once: at a place of its own how many rules it has, and their indexes; and for each box a cell with the number of its
-- list. A box is named by one interval number for each dimension, weekdays first.
use Rattle.std.specs.Prelude.{◌≡◌, List, [], ◌∷◌, map, ℕ, zero, suc, ◌+◌, ◌*◌, ◌≤◌, ◌<◌, length, get_or, take}
use Rattle.laws.specs.Lists.{from, All}
use Rattle.definition.specs.Rule.{Rule}
use Rattle.definition.specs.Sheet.{sheet_limits}
use Rattle.definition.specs.Lists.{indexes_at}
use Rattle.paving.specs.Grid.{size_of}
use Rattle.tables.specs.Sizes.{list_places, list_limit, held_limit}
use Rattle.tables.specs.Cuts.{cut_of, Cut}

-- the list at a place
unfoldable pub list_of : List ℕ → ℕ → List ℕ
list_of lists place = map (λ k. get_or lists (place * list_places + 1 + k) 0) (from 0 (get_or lists (place * list_places) 0))

-- ## The store of lists
-- the list that a number names: 0 the empty list, l + 1 the list at place l
unfoldable pub named : List ℕ → ℕ → List ℕ
named lists zero = []
named lists (suc place) = list_of lists place

-- the list of a box, whose cell has its number
unfoldable pub shown : List ℕ → List ℕ → ℕ → List ℕ
shown cells lists box = named lists (get_or cells box 0)

-- cells name lists in use, so many; each of these is neither empty nor too long; and no two places have the same list
pub record Store (cells lists : List ℕ) (used : ℕ) : Type 0 where
  pub names : (box : ℕ) → get_or cells box 0 ≤ used
  pub room : used * list_places ≤ length lists
  pub some : (l : ℕ) → l < used → 1 ≤ get_or lists (l * list_places) 0
  pub short : (l : ℕ) → l < used → get_or lists (l * list_places) 0 ≤ list_limit
  pub apart : (a b : ℕ) → a < used → b < used → list_of lists a ≡ list_of lists b → a ≡ b

-- the lists in use have only rules before one
abbrev pub Earlier : List ℕ → ℕ → ℕ → Type 0
Earlier lists used rule = (l : ℕ) → l < used → All (λ r. r < rule) (list_of lists l)

-- the words before a place are as they were
abbrev pub KeptBelow : List ℕ → List ℕ → ℕ → Type 0
KeptBelow lists after place = (i : ℕ) → i < place * list_places → get_or after i 0 ≡ get_or lists i 0

-- the first n cells have other numbers now: what a table has for the old ones
pub record Renamed (cells numbers cells' : List ℕ) (n : ℕ) : Type 0 where
  pub anew : (box : ℕ) → box < n → get_or cells' box 0 ≡ get_or numbers (get_or cells box 0) 0
  pub later : (box : ℕ) → n ≤ box → get_or cells' box 0 ≡ get_or cells box 0

-- ## Boxes
-- one interval number for each dimension
abbrev pub Within : List ℕ → ℕ → List ℕ → Type 0
Within sizes zero [] = Unit {0}
Within sizes zero (x ∷ p) = ⊥
Within sizes (suc i) [] = ⊥
Within sizes (suc i) (x ∷ p) = (x < get_or sizes i 0) × Within sizes i p

-- the number of the box that they name, below a node
unfoldable pub box_of : List ℕ → ℕ → ℕ → List ℕ → ℕ
box_of sizes zero node p = node
box_of sizes (suc i) node [] = node
box_of sizes (suc i) node (x ∷ p) = box_of sizes i (node * get_or sizes i 0 + x) p

-- its first point
unfoldable pub start_of : List ℕ → List ℕ → ℕ → List ℕ → List ℕ
start_of rows table zero p = []
start_of rows table (suc i) [] = []
start_of rows table (suc i) (x ∷ p) = cut_of rows table i x ∷ start_of rows table i p

-- ## The lists of some rules
-- THE STORE AFTER THE FIRST k RULES: it is as it must be, and each box has the list of indexes at its first point
pub record Stored (sizes rows table cells lists : List ℕ) (used : ℕ) (rs : List Rule) (k : ℕ) : Type 0 where
  pub store : Store cells lists used
  pub earlier : Earlier lists used k
  pub few : used ≤ held_limit
  pub list : (p : List ℕ) → Within sizes 4 p → shown cells lists (box_of sizes 4 0 p) ≡ indexes_at (take k rs) (start_of rows table 4 p)

-- A LIST FOR EACH BOX, that of its points
pub record BoxLists (rows sizes table cells lists : List ℕ) (used : ℕ) (rs : List Rule) : Type 0 where
  pub cut : Cut rows sizes table rs
  pub few-rules : length rs ≤ sheet_limits.rules
  pub few-boxes : size_of sizes 4 ≤ sheet_limits.boxes
  pub one_cell : length cells ≡ size_of sizes 4
  pub few-lists : used ≤ size_of sizes 4
  pub stored : Stored sizes rows table cells lists used rs (length rs)

-- LISTS THAT CELLS NAME, for each box that of its points: what a day is folded from, whether or not equal lists are kept once
pub record NamedLists (rows sizes table cells lists : List ℕ) (used : ℕ) (rs : List Rule) : Type 0 where
  pub cut : Cut rows sizes table rs
  pub few-boxes : size_of sizes 4 ≤ sheet_limits.boxes
  pub names : (box : ℕ) → get_or cells box 0 ≤ used
  pub room : used * list_places ≤ length lists
  pub short : (l : ℕ) → l < used → get_or lists (l * list_places) 0 ≤ list_limit
  pub earlier : Earlier lists used (length rs)
  pub list : (p : List ℕ) → Within sizes 4 p → shown cells lists (box_of sizes 4 0 p) ≡ indexes_at (take (length rs) rs) (start_of rows table 4 p)
