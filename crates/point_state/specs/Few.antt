-- Which columns of a dimension no rule tells apart: there are no more different lists than combinations of one kind of columns for each dimension.
use Rattle.std.specs.Prelude.{◌≡◌, cond, List, ℕ, zero, suc, ◌+◌, ◌*◌, ◌≤◌, ◌<◌}
use Rattle.std.proofs.Math.Option.{none}
use Rattle.definition.specs.Rule.{Rule}
use Rattle.definition.specs.Sheet.{sheet_limits}
use Rattle.definition.specs.Overlap.{first_overlap}
use Rattle.paving.specs.Grid.{size_of}
use Rattle.tables.specs.Rules.{RuleDays}
use Rattle.tables.specs.Cuts.{cut_of, Cut}
use Rattle.plain_lists.specs.Covers.{RangesThere, holds_in}

-- which of the first rules hold a value of dimension i: a bit for each, the last rule's lowest
unfoldable pub marks_of : (counts ranges : List ℕ) → ℕ → ℕ → ℕ → ℕ
marks_of counts ranges zero i value = 0
marks_of counts ranges (suc k) i value = marks_of counts ranges k i value * 2 + cond (holds_in counts ranges k i value) 1 0

module _ (counts ranges : List ℕ) (rules : ℕ) where
  -- the ranges of all rules can be read
  abbrev pub AllThere : Type 0
  AllThere = (rule : ℕ) → rule < rules → RangesThere counts ranges rule

  -- no rule tells two values of dimension i apart
  abbrev pub Alike : ℕ → ℕ → ℕ → Type 0
  Alike i x y = (rule : ℕ) → rule < rules → holds_in counts ranges rule i x ≡ holds_in counts ranges rule i y

  -- THE FIRST COLUMNS OF A DIMENSION BY KINDS: each is like the example of its kind
  pub record Kinds (rows cuts : List ℕ) (i columns kinds : ℕ) : Type 0 where
    pub kind : ℕ → ℕ
    pub example : ℕ → ℕ
    pub low : (x : ℕ) → x < columns → kind x < kinds
    pub alike : (x : ℕ) → x < columns → Alike i (cut_of rows cuts i x) (cut_of rows cuts i (example (kind x)))

-- the days of some rules, none with days typed twice, and the rows of their cuts
pub record DaysCut (counts ranges rows sizes cuts : List ℕ) (n : ℕ) (rs : List Rule) : Type 0 where
  pub days : RuleDays counts ranges n rs
  pub cut : Cut rows sizes cuts rs
  pub apart : first_overlap rs ≡ none
  pub few-boxes : size_of sizes 4 ≤ sheet_limits.boxes
