-- What is asked of a rule's ranges, and what is answered of rules.
use Rattle.std.specs.Prelude.{◌≡◌, List, map, ℕ, ◌*◌, ◌≤◌, ◌<◌, ltb, length, get_or}
use Rattle.laws.specs.Lists.{from, only_if}
use Rattle.grid.specs.Cut.{Range}
use Rattle.definition.specs.Rule.{Rule}
use Rattle.definition.specs.Overlap.{first_overlap}
use Rattle.tables.specs.Sizes.{range_places}
use Rattle.tables.specs.Ranges.{range_of}

-- so many ranges of a dimension
abbrev pub row_of : List ℕ → ℕ → ℕ → List Range
row_of ranges i n = map (range_of ranges i) (from 0 n)

-- none of the first n ranges of a dimension ends behind a value
abbrev pub EndBy : List ℕ → ℕ → ℕ → ℕ → Type 0
EndBy ranges i n v = (k : ℕ) → k < n → (range_of ranges i k).1 ≤ v

-- the counts of four dimensions are there, and their ranges, each dimension's in its own row
pub record FewRanges (counts ranges : List ℕ) : Type 0 where
  pub four : 4 ≤ length counts
  pub all-rows : 4 * range_places ≤ length ranges
  pub few : (i : ℕ) → i < 4 → get_or counts i 0 * 2 ≤ range_places

-- WHAT IS ANSWERED of n rules: the first that overlaps, or n
pub record Overlapping (rs : List Rule) (n r : ℕ) : Type 0 where
  pub within : r ≤ n
  pub first : first_overlap rs ≡ only_if (ltb r n) r
