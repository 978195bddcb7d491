-- A rule over the store, box by box: what is known on the way, and what is answered.
use Rattle.std.specs.Prelude.{◌≡◌, Bool, true, false, List, [], ◌∷◌, ◌++◌, ℕ, suc, ◌+◌, ◌*◌, ◌≤◌, ◌<◌, ltb, length, get_or, take}
use Rattle.laws.specs.Lists.{count, All, Mem}
use Rattle.tables.specs.Sizes.{list_limit, list_places}
use Rattle.tables.specs.Lists.{list_of, named, shown, Store, Earlier, KeptBelow}
use Rattle.tables.specs.Plain.{base, plain_step, some_overfull}

-- a place's list is the one that a number names, with the rule at its end; the places before it are as they were
pub record Appended (lists after : List ℕ) (number place rule : ℕ) : Type 0 where
  pub ended : list_of after place ≡ named lists number ++ (rule ∷ [])
  pub kept : KeptBelow lists after place

-- the store has room for the lists that a rule can make beside those before it: one for each number of a list and for each box, at most
abbrev pub Roomy : (cells lists : List ℕ) → ℕ → Type 0
Roomy cells lists before = (m : ℕ) → m ≤ before + 1 → m ≤ length cells → (before + m) * list_places ≤ length lists

-- ## Within a rule
-- the lists that the rule has made: one for each number of before that the memo has a number above `before` for
pub record Made (lists memo : List ℕ) (rule before used : ℕ) : Type 0 where
  pub many : before < length memo
  pub within : (k : ℕ) → get_or memo k 0 ≤ used
  pub grown : used ≡ before + count (ltb before) (take (suc before) memo)
  pub short : (l : ℕ) → l < before → get_or lists (l * list_places) 0 ≤ list_limit
  pub unfilled : (k : ℕ) → k ≤ before → before < get_or memo k 0 → length (named lists k) < list_limit
  pub made : (k : ℕ) → k ≤ before → before < get_or memo k 0 → named lists (get_or memo k 0) ≡ named lists k ++ (rule ∷ [])
  pub origin : (l : ℕ) → before ≤ l → l < used → (k : ℕ) × (k ≤ before) × (get_or memo k 0 ≡ suc l)

-- THE INVARIANT on the way: the lists made; cells name lists in use, and those drawn in this rule are no fewer than the lists made; there is
-- room for the others, whose numbers fit
pub record Making (cells lists memo : List ℕ) (rule before used : ℕ) : Type 0 where
  pub made : Made lists memo rule before used
  pub names : (box : ℕ) → get_or cells box 0 ≤ used
  pub slow : used ≤ before + count (ltb before) cells
  pub room : Roomy cells lists before
  pub few : before + before + 1 < 65536

-- WHAT A WALK OVER SOME BOXES DOES. Each is drawn, unless its list had no room for the rule; a box that was drawn before keeps its number, and
-- so do the boxes that are not walked over and the lists in use before. The flag is set where a list had no room, and stays.
pub record Walked (cells lists : List ℕ) (used : ℕ) (over : Bool) (cells' lists' memo' : List ℕ) (used' : ℕ) (over' : Bool) (rule : ℕ) (replaces : Bool) (before : ℕ) (boxes : List ℕ)
    : Type 0 where
  pub making : Making cells' lists' memo' rule before used'
  pub grown : used ≤ used'
  pub kept : KeptBelow lists lists' used
  pub others : (box : ℕ) → (Mem box boxes → ⊥) → get_or cells' box 0 ≡ get_or cells box 0
  pub stays : (box : ℕ) → before < get_or cells box 0 → get_or cells' box 0 ≡ get_or cells box 0
  pub waits : (box : ℕ) → get_or cells' box 0 ≤ before → get_or cells' box 0 ≡ get_or cells box 0
  pub shows : (box : ℕ) → get_or cells box 0 ≤ before → before < get_or cells' box 0
      → (length (base replaces (shown cells lists box)) < list_limit) × (shown cells' lists' box ≡ base replaces (shown cells lists box) ++ (rule ∷ []))
  pub drawn : over' ≡ false → All (λ box. before < get_or cells' box 0) boxes
  pub full : over ≡ false → over' ≡ true → (box : ℕ) × Mem box boxes × (get_or cells box 0 ≤ before) × (list_limit ≤ length (base replaces (shown cells lists box)))
  pub loud : over ≡ true → over' ≡ true

-- ## A rule
-- what is asked for before a rule: a store with lists of earlier rules, room for more, and a memo of earlier numbers
pub record Ready (cells lists memo : List ℕ) (rule used : ℕ) : Type 0 where
  pub store : Store cells lists used
  pub earlier : Earlier lists used rule
  pub room : Roomy cells lists used
  pub few : used + used + 1 < 65536
  pub many : used < length memo
  pub memoed : (k : ℕ) → get_or memo k 0 ≤ used

-- THE ANSWER: whether the list of some covered box had no room for the rule; and a store that, where none had, shows the plain map after the
-- rule. It has one list more for each list that there was, the empty one too, and for each box, at most
pub record Drew (cells lists cells' lists' memo' : List ℕ) (covered : ℕ → Bool) (rule : ℕ) (replaces : Bool) (used used' : ℕ) (over : Bool) : Type 0 where
  pub told : over ≡ some_overfull replaces covered (shown cells lists) (length cells)
  pub store : Store cells' lists' used'
  pub earlier : Earlier lists' used' (suc rule)
  pub shows : over ≡ false → (box : ℕ) → box < length cells → shown cells' lists' box ≡ plain_step replaces rule covered (shown cells lists) box
  pub few : (used' ≤ used + (used + 1)) × (used' ≤ used + length cells)
  pub memoed : (k : ℕ) → get_or memo' k 0 ≤ used'
