-- The cuts of all dimensions in one table. A dimension's row begins at a place that `rows` names and has one cut more than the dimension's
-- size, the number of intervals between them. Sizes and rows stand last dimension first: years, months, weeks, weekdays.
use Rattle.std.specs.Prelude.{◌≡◌, List, [], ◌∷◌, map, ℕ, suc, ◌+◌, ◌-◌, ◌≤◌, ◌<◌, length, get_or}
use Rattle.std.proofs.Math.Option.{none}
use Rattle.laws.specs.Lists.{from}
use Rattle.grid.specs.Cut.{Range, cuts}
use Rattle.definition.specs.Rule.{Rule}
use Rattle.definition.specs.Point.{Dimension, dimensions}
use Rattle.definition.specs.Box.{all_ranges}
use Rattle.definition.specs.Overlap.{first_overlap}
use Rattle.tables.specs.Rules.{RuleDays, Replacing}

-- cut x of dimension i
unfoldable pub cut_of : List ℕ → List ℕ → ℕ → ℕ → ℕ
cut_of rows table i x = get_or table (get_or rows i 0 + x) 0

-- interval x between some cuts
abbrev pub interval_at : (ℕ → ℕ) → ℕ → Range
interval_at cut x = (cut x, cut (suc x))

-- the numbers from place p up to e
unfoldable pub stretch : List ℕ → ℕ → ℕ → List ℕ
stretch s p e = map (λ k. get_or s k 0) (from p (e - p))

-- the cuts of a dimension
unfoldable pub dimension_cuts : List ℕ → List ℕ → List ℕ → ℕ → List ℕ
dimension_cuts rows sizes table i = stretch table (get_or rows i 0) (get_or rows i 0 + get_or sizes i 0 + 1)

-- the cuts of the first l dimensions rise
abbrev pub RowsRise : List ℕ → List ℕ → List ℕ → ℕ → Type 0
RowsRise rows sizes table l = (i : ℕ) → i < l → (x : ℕ) → x < get_or sizes i 0 → cut_of rows table i x < cut_of rows table i (suc x)

-- dimension by dimension the cuts of some rules' ranges; the first dimension's row is the last
abbrev pub CutBy : List ℕ → List ℕ → List ℕ → List Rule → List Dimension → Type 0
CutBy rows sizes table rs [] = Unit {0}
CutBy rows sizes table rs (d ∷ ds) = (dimension_cuts rows sizes table (length ds) ≡ cuts d.bounds (all_ranges rs d)) × CutBy rows sizes table rs ds

-- THE CUTS of some rules, a row for each dimension
pub record Cut (rows sizes table : List ℕ) (rs : List Rule) : Type 0 where
  pub four : length sizes ≡ 4
  pub all-rows : 4 ≤ length rows
  pub inside : (i : ℕ) → i < 4 → get_or rows i 0 + get_or sizes i 0 < length table
  pub filled : (i : ℕ) → i < 4 → 1 ≤ get_or sizes i 0
  pub cut_by : CutBy rows sizes table rs dimensions

-- RULES THAT CAN BE DRAWN: the tables hold the days of some rules, so many, and the rows their cuts
abbrev pub Drawable : (replacing counts ranges rows sizes table : List ℕ) → ℕ → List Rule → Type 0
Drawable replacing counts ranges rows sizes table n rs = RuleDays counts ranges n rs × Replacing replacing rs × Cut rows sizes table rs

-- RULES WHOSE LISTS CAN BE MADE: moreover none of them has days typed twice
abbrev pub ToList : (replacing counts ranges rows sizes table : List ℕ) → ℕ → List Rule → Type 0
ToList replacing counts ranges rows sizes table n rs = Drawable replacing counts ranges rows sizes table n rs × (first_overlap rs ≡ none)
