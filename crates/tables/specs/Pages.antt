-- Pages in a row of numbers: a day's number, how many items each sort has (years, months, weeks, weekdays), and the items' ends; pages stand
-- one behind the other. And the rules that pages are. 01, "From points to rules": "Write the list's entries as rules over these sets'
-- maximal runs".
use Rattle.std.specs.Prelude.{◌≡◌, ℕ, zero, suc, ◌+◌, ◌-◌, ◌≤◌, length, take, drop, get_or}
use mathlib.Core.List.{List, [], ◌∷◌, ◌++◌, map, flat_map}
use Rattle.laws.specs.Lists.{All}
use Rattle.definition.specs.Rule.{Rule}
use Rattle.definition.specs.Range.{Ends}
use Rattle.definition.specs.Sheet.{Form, sheet_limits}
use Rattle.definition.specs.Point.{dimensions}
use Rattle.definition.specs.Day.{Day}
use Rattle.definition.specs.Group.{as_rules, folded}
use Rattle.day_flat.specs.Day.{unflat}
use Rattle.tables.specs.Sizes.{day_room}
use Rattle.tables.specs.Days.{box_words, Ready, words_of, Carried}
use Rattle.tables.specs.Items.{end_numbers, row_place, rows_below, Rows, over_items}

-- a day's number, and items dimension by dimension, from weekdays to years
abbrev pub Page : Type 0
Page = ℕ × List (List Ends)

-- the numbers of a day's number and of items by sorts
unfoldable pub page_numbers : ℕ → List (List Ends) → List ℕ
page_numbers number E = number ∷ map length E ++ end_numbers E

-- ## Reading
module _ (pages : List ℕ) (at : ℕ) where
  abbrev pub page_counts : List ℕ
  page_counts = take 4 (drop (at + 1) pages)

  abbrev pub page_ends : List ℕ
  page_ends = take (row_place page_counts 4) (drop (at + 5) pages)

  unfoldable pub page_size : ℕ
  page_size = 5 + row_place page_counts 4

  unfoldable pub page_at : Page
  page_at = (get_or pages at 0, rows_below page_ends page_counts 4)

-- so many pages from a place on
unfoldable pub pages_at : ℕ → List ℕ → ℕ → List Page
pages_at zero pages at = []
pages_at (suc n) pages at = page_at pages at ∷ pages_at n pages (at + page_size pages at)

-- so many pages from one place on end at another
unfoldable pub Counted : List ℕ → ℕ → ℕ → ℕ → Type 0
Counted pages zero at stop = at ≡ stop
Counted pages (suc n) at stop = (at + page_size pages at ≤ stop) × Counted pages n (at + page_size pages at) stop

-- ## Rules
-- a day's rules over the items of each dimension
unfoldable pub day_rules : List (List Ends) → Day → List Rule
day_rules E d = map (over_items dimensions E) (as_rules d)

-- over the words of each box's day
unfoldable pub page_rules : (ℕ → List ℕ) → Page → List Rule
page_rules W g = day_rules g.1 (unflat (words_of W g.0))

abbrev pub pages_rules : (ℕ → List ℕ) → List Page → List Rule
pages_rules W gs = flat_map (page_rules W) gs

-- the rules of so many pages from the front on, over the tables
abbrev pub paged_rules : (states counts spans lists pages : List ℕ) → ℕ → List Rule
paged_rules states counts spans lists pages n = pages_rules (box_words states counts spans lists) (pages_at n pages 0)

-- ## What pages must be
module _ (form : Form) (states counts spans lists pages : List ℕ) (room : ℕ) where
  -- a page that is all there, with items and a day that a sheet of the form can carry
  pub record PageReady (at : ℕ) : Type 0 where
    pub inside : at + page_size pages at ≤ length pages
    pub rows : Rows (page_ends pages at) (page_counts pages at)
    pub numbered : 1 ≤ get_or pages at 0
    pub ready : Ready states counts spans lists room (get_or pages at 0 - 1)
    pub carried : All (Carried form) (unflat (box_words states counts spans lists (get_or pages at 0 - 1)))

  unfoldable pub Pages : ℕ → ℕ → Type 0
  Pages zero at = Unit {0}
  Pages (suc n) at = PageReady at × Pages n (at + page_size pages at)

-- THE PAGES OF SOME RULES' FOLD, so many, from the front on
pub record Paged (form : Form) (states counts spans lists pages : List ℕ) (n : ℕ) (rs : List Rule) : Type 0 where
  pub few : n ≤ sheet_limits.boxes
  pub ready : Pages form states counts spans lists pages day_room n 0
  pub rules : paged_rules states counts spans lists pages n ≡ folded rs
