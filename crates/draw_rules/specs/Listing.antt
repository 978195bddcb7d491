-- What `draw_rules` requires, and what it answers: the refusal that is met first, or a list for each box.
use Rattle.std.specs.Prelude.{◌≡◌, List, Result, Ok, Err, map, ℕ, ◌+◌, ◌-◌, ◌*◌, ◌/◌, ◌≤◌, ◌<◌, ltb, length, get_or}
use Rattle.std.proofs.Math.Option.{none, some}
use Rattle.laws.specs.Lists.{from}
use Rattle.definition.specs.Rule.{Rule}
use Rattle.definition.specs.Sheet.{sheet_limits}
use Rattle.definition.specs.Lists.{distinct_lists, first_refused}
use Rattle.paving.specs.Grid.{size_of}
use Rattle.tables.specs.Sizes.{list_places, held_limit}
use Rattle.tables.specs.Lists.{list_of, shown, Store, BoxLists}
use Rattle.answers.specs.Refusal.{code_of}
use Rattle.answers.specs.declared.refusal.Refusal.{Refusal}

-- as many lists as can stand over so many boxes are no more than `most`: each box holds one, and no rule may leave more than the limit
abbrev pub Enough : ℕ → ℕ → Type 0
Enough boxes most = (m : ℕ) → m ≤ boxes → m ≤ held_limit → m ≤ most

-- PLACES for `most` lists from before a rule and for those that it can make: one for each of them and one for the empty list, and one for each box, at
-- most. With 512 lists from before these are 1,025 places
pub record Places (cells lists memo most : ℕ) (sizes : List ℕ) : Type 0 where
  pub one_cell : cells ≡ size_of sizes 4
  pub few-boxes : size_of sizes 4 ≤ sheet_limits.boxes
  pub some : 2 ≤ memo
  pub few : most ≤ held_limit
  pub enough : Enough cells most
  pub room : (m : ℕ) → m ≤ most + 1 → m ≤ cells → ((most + m) * list_places ≤ lists) × (most + m < memo)

-- A STORE WITHOUT LISTS over boxes: half of its places are for lists from before a rule, and neither cells nor memo name one
pub record NoLists (cells lists memo sizes : List ℕ) : Type 0 where
  pub places : Places (length cells) (length lists) (length memo) ((length memo - 2) / 2) sizes
  pub unnamed : (box : ℕ) → get_or cells box 0 ≡ 0
  pub unmade : (k : ℕ) → get_or memo k 0 ≡ 0

-- ## A rule's lists settled
-- the store shows what it showed, with as many lists in use as a next rule may find, unless there are too many
pub record Settled (cells lists cells' lists' memo' : List ℕ) (most used kept : ℕ) : Type 0 where
  pub store : Store cells' lists' kept
  pub shows : (box : ℕ) → box < length cells → shown cells' lists' box ≡ shown cells lists box
  pub there : (p : ℕ) → p < kept → (l : ℕ) × (l < used) × (list_of lists' p ≡ list_of lists l)
  pub told : ltb held_limit kept ≡ ltb held_limit (length (distinct_lists (map (shown cells lists) (from 0 (length cells)))))
  pub few : kept ≤ held_limit → kept ≤ most
  pub memoed : (k : ℕ) → get_or memo' k 0 ≤ kept

-- THE ANSWER about rules rs
unfoldable pub Listing : (rows sizes table cells lists : List ℕ) → List Rule → Result ℕ Refusal → Type 0
Listing rows sizes table cells lists rs (Ok used) = (first_refused sheet_limits rs ≡ none) × BoxLists rows sizes table cells lists used rs
Listing rows sizes table cells lists rs (Err r) = first_refused sheet_limits rs ≡ some (code_of r.reason, r.place)
