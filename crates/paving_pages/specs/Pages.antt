-- Groups as pages of numbers: the value, how many items each sort has, then the items' first and last values, sort after sort. Sorts count
-- from years; dimensions go from weekdays, so that the first dimension is the last sort.
use Rattle.std.specs.Prelude.{◌≡◌, ℕ, zero, suc, ◌+◌, ◌≤◌, ◌<◌, length, get_or}
use mathlib.Core.List.{List, [], ◌∷◌, ◌++◌, map, flat_map}
use Rattle.std.proofs.lemmas.List.Edits.{sets}
use Rattle.grid.specs.Group.{Set, Group}
use Rattle.grid.specs.Cut.{joined}
use Rattle.definition.specs.Range.{Ends}
use Rattle.definition.specs.Group.{items_of}
use Rattle.paving.specs.Grid.{chosen}
use Rattle.paving.specs.Sweep.{groups_from, left_from, TakenOut}
use Rattle.date_items.specs.Runs.{cut_of, Cuts}
use Rattle.tables.specs.Cuts.{interval_at}
use Rattle.tables.specs.Items.{end_numbers}
use Rattle.tables.specs.Pages.{page_numbers}

-- l dimensions whose rows of cuts are all there
pub record CutRows (rows cuts sizes : List ℕ) (l : ℕ) : Type 0 where
  pub all-rows : l ≤ length rows
  pub all-sizes : l ≤ length sizes
  pub row : (i : ℕ) → i < l → Cuts cuts (get_or rows i 0) (get_or sizes i 0)

-- ## Items by sort
module _ (rows cuts sizes : List ℕ) where
  -- the items of some intervals of a dimension
  unfoldable pub sort_items : ℕ → List ℕ → List Ends
  sort_items i E =
      items_of (cut_of cuts (get_or rows i 0) 0, cut_of cuts (get_or rows i 0) (get_or sizes i 0)) (joined (map (interval_at (cut_of cuts (get_or rows i 0))) E))

  -- the items of a set of l dimensions, years first
  unfoldable pub page_items : ℕ → Set ℕ → List (List Ends)
  page_items zero S = []
  page_items (suc i) [] = []
  page_items (suc i) (E ∷ S) = page_items i S ++ (sort_items i E ∷ [])

  -- the items of the marked intervals of l dimensions, whose marks begin at a place
  abbrev pub marked_items : List ℕ → ℕ → ℕ → List (List Ends)
  marked_items marks l base = page_items l (chosen marks sizes l base)

-- the counts laid from a place on, the items from another
unfoldable pub laid_items : List ℕ → ℕ → ℕ → List (List Ends) → List ℕ
laid_items pages counts next Es = sets (sets pages counts (map length Es)) next (end_numbers Es)

-- ## Pages
-- the pages so far, and the place of the next one
pub record State : Type 0 where
  pub pages : List ℕ
  pub next : ℕ

abbrev pub state : List ℕ → ℕ → State
state pages next = record { pages = pages; next = next }

module _ (rows cuts sizes : List ℕ) (l : ℕ) where
  -- the numbers of a group, and of some
  unfoldable pub group_numbers : Group ℕ ℕ → List ℕ
  group_numbers g = page_numbers g.0 (page_items rows cuts sizes l g.1)

  unfoldable pub groups_numbers : List (Group ℕ ℕ) → List ℕ
  groups_numbers gs = flat_map group_numbers gs

  -- a page more
  unfoldable pub put_page : State → Group ℕ ℕ → State
  put_page s g = state (sets s.pages s.next (group_numbers g)) (s.next + length (group_numbers g))

-- ## All groups
-- THE PAGES OF ALL GROUPS of four dimensions, class after class: so many numbers, at the front of the buffer; and what becomes of the cells and the marks
abbrev pub PopsPages : (rows cuts sizes classes cells marks pages cells' marks' pages' : List ℕ) → ℕ → Type 0
PopsPages rows cuts sizes classes cells marks pages cells' marks' pages' r =
    (r ≡ length (groups_numbers rows cuts sizes 4 (groups_from cells classes sizes 5 1 4)))
    × (pages' ≡ sets pages 0 (groups_numbers rows cuts sizes 4 (groups_from cells classes sizes 5 1 4)))
    × TakenOut sizes 4 cells marks cells' marks' (groups_from cells classes sizes 5 1 4) (left_from cells classes sizes 5 1 4)
