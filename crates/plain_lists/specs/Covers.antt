-- Which values a rule's ranges in a dimension hold, out of the tables; and which boxes the rule covers: in every dimension some range of it holds the first
-- value of the box's interval.
use Rattle.std.specs.Prelude.{◌≡◌, Bool, List, ℕ, ◌+◌, ◌*◌, ◌^◌, ◌≤◌, ◌<◌, length, get_or}
use Rattle.laws.specs.Lists.{from, every, any_of}
use Rattle.grid.specs.Cut.{Range, holds}
use Rattle.paving.specs.Grid.{size_of}
use Rattle.tables.specs.Sizes.{range_places}
use Rattle.tables.specs.Cuts.{cut_of}
use Rattle.plain_boxes.specs.Digits.{digit_of}

-- range k of those that stand from a place on, each as start and end
unfoldable pub range_from : List ℕ → ℕ → ℕ → Range
range_from ranges first k = (get_or ranges (first + 2 * k) 0, get_or ranges (first + 2 * k + 1) 0)

-- holds one of so many ranges from a place on the value?
unfoldable pub in_ranges : List ℕ → ℕ → ℕ → ℕ → Bool
in_ranges ranges first count value = any_of (λ k. holds value (range_from ranges first k)) (from 0 count)

-- the tables of rules' days
module _ (counts ranges : List ℕ) (rule : ℕ) where
  -- a rule's ranges can be read from them
  pub record RangesThere : Type 0 where
    pub all-counts : rule * 4 + 4 ≤ length counts
    pub all-ranges : rule * 256 + 256 ≤ length ranges
    pub few : (i : ℕ) → i < 4 → get_or counts (rule * 4 + i) 0 * 2 ≤ range_places

  -- has the rule, in dimension i, a range that holds the value?
  unfoldable pub holds_in : ℕ → ℕ → Bool
  holds_in i value = in_ranges ranges (rule * 256 + i * range_places) (get_or counts (rule * 4 + i) 0) value

-- and the rows of cuts, and the sizes
module _ (rows sizes cuts counts ranges : List ℕ) (rule : ℕ) where
  -- has the rule, in dimension i, a range that holds the first value of the box's interval?
  unfoldable pub covers_in : ℕ → ℕ → Bool
  covers_in box i = holds_in counts ranges rule i (cut_of rows cuts i (digit_of sizes box i))

  -- THE RULE COVERS THE BOX
  unfoldable pub covers_box : ℕ → Bool
  covers_box box = every (covers_in box) (from 0 4)

  -- the rule's ranges are there, over a grid of four dimensions
  pub record Coverable : Type 0 where
    pub four : length sizes ≡ 4
    pub all-rows : 4 ≤ length rows
    pub inside : (i : ℕ) → i < 4 → get_or rows i 0 + get_or sizes i 0 < length cuts
    pub filled : (i : ℕ) → i < 4 → 1 ≤ get_or sizes i 0
    pub small : (i : ℕ) → i < 4 → size_of sizes i < 2 ^ 64
    pub ranges-there : RangesThere counts ranges rule
