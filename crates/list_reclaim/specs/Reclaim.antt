-- Room given back: marks at the numbers that cells have, marked lists moved down, and what is left.
use Rattle.std.specs.Prelude.{◌≡◌, List, map, ℕ, suc, ◌+◌, ◌*◌, ◌≤◌, ◌<◌, eqb, length, get_or}
use Rattle.laws.specs.Lists.{from, keep, distinct, filled}
use Rattle.laws.specs.Tests.{same_list}
use Rattle.tables.specs.Sizes.{list_places}
use Rattle.tables.specs.Lists.{list_of, shown, Store}

-- 1 at each number that one of the first n cells has, else what stood there
pub record Marked (cells memo memo' : List ℕ) (n : ℕ) : Type 0 where
  pub yes : (box : ℕ) → box < n → get_or memo' (get_or cells box 0) 0 ≡ 1
  pub only : (k : ℕ) → (get_or memo' k 0 ≡ get_or memo k 0 → ⊥) → (box : ℕ) × (box < n) × (get_or cells box 0 ≡ k)

-- the list at place l, if its number is marked, stands at one of the first `next` places now, and the mark is its new number
abbrev pub NewPlace : (lists memo lists' memo' : List ℕ) → ℕ → ℕ → Type 0
NewPlace lists memo lists' memo' next l = get_or memo (suc l) 0 ≡ 1 → (p : ℕ) × (p < next) × (get_or memo' (suc l) 0 ≡ suc p) × (list_of lists' p ≡ list_of lists l)

-- the list at place p stood at one of the first `place` places, marked
abbrev pub OldPlace : (memo memo' : List ℕ) → ℕ → ℕ → Type 0
OldPlace memo memo' place p = (l : ℕ) × (l < place) × (get_or memo (suc l) 0 ≡ 1) × (get_or memo' (suc l) 0 ≡ suc p)

-- the marked lists of the first places moved down to the first `next` places
pub record Moved (lists memo lists' memo' : List ℕ) (place next : ℕ) : Type 0 where
  pub down : next ≤ place
  pub later : (k : ℕ) → place < k → get_or memo' k 0 ≡ get_or memo k 0
  pub first : get_or memo' 0 0 ≡ get_or memo 0 0
  pub words : (i : ℕ) → place * list_places ≤ i → get_or lists' i 0 ≡ get_or lists i 0
  pub numbered : (l : ℕ) → l < place → NewPlace lists memo lists' memo' next l
  pub origin : (p : ℕ) → p < next → OldPlace memo memo' place p

-- a place's list moved to the next free place, if its number is marked
pub record MovedOne (lists memo lists' memo' : List ℕ) (place next next' : ℕ) : Type 0 where
  pub others : (k : ℕ) → (k ≡ suc place → ⊥) → get_or memo' k 0 ≡ get_or memo k 0
  pub low : (i : ℕ) → i < next * list_places → get_or lists' i 0 ≡ get_or lists i 0
  pub high : (i : ℕ) → (place + 1) * list_places ≤ i → get_or lists' i 0 ≡ get_or lists i 0
  pub unmarked : (get_or memo (suc place) 0 ≡ 1 → ⊥) → next' ≡ next
  pub marked : get_or memo (suc place) 0 ≡ 1 → (next' ≡ next + 1) × (get_or memo' (suc place) 0 ≡ suc next)
      × ((k : ℕ) → k ≤ get_or lists (place * list_places) 0 → get_or lists' (next * list_places + k) 0 ≡ get_or lists (place * list_places + k) 0)

-- THE ANSWER: the store shows at each box what it showed; each of its lists was there, and is held by a box; and there are as many of them as
-- the boxes have distinct lists that are not empty
pub record Reclaimed (cells lists cells' lists' memo' : List ℕ) (used kept : ℕ) : Type 0 where
  pub few : kept ≤ used
  pub store : Store cells' lists' kept
  pub shows : (box : ℕ) → box < length cells → shown cells' lists' box ≡ shown cells lists box
  pub there : (p : ℕ) → p < kept → (l : ℕ) × (l < used) × (list_of lists' p ≡ list_of lists l)
  pub held : (p : ℕ) → p < kept → (box : ℕ) × (box < length cells) × (get_or cells' box 0 ≡ suc p)
  pub counted : kept ≡ length (distinct (same_list eqb) (keep filled (map (shown cells lists) (from 0 (length cells)))))
  pub memoed : (k : ℕ) → get_or memo' k 0 ≡ 0
