-- What the stages before an engine leave to it: the drained rules in tables, and the rows of their cuts.
use Rattle.std.specs.Prelude.{◌≡◌, List, ℕ, ◌≤◌, length}
use Rattle.std.proofs.Math.Option.{none}
use Rattle.definition.specs.Rule.{Rule}
use Rattle.definition.specs.Sheet.{sheet_limits}
use Rattle.definition.specs.Overlap.{first_overlap}
use Rattle.paving.specs.Grid.{size_of}
use Rattle.tables.specs.Rules.{RuleTimes}
use Rattle.tables.specs.Cuts.{Drawable}
use Rattle.tables.specs.declared.lent.Cuts.{Cuts}
use Rattle.tables.specs.declared.lent.DrainedRules.{DrainedRules}

-- 11 and 5 pass some rules: none has days typed twice, and there are no more boxes between their cuts than the limit
pub record Passed (sizes : List ℕ) (rs : List Rule) : Type 0 where
  pub apart : first_overlap rs ≡ none
  pub few-boxes : size_of sizes 4 ≤ sheet_limits.boxes

-- THE TABLES OF SOME RULES AND OF NO OTHERS, and the rows of their cuts: these are drawn next
pub record ToDraw (states counts spans replacing range_counts ranges rows sizes cuts : List ℕ) (rs : List Rule) : Type 0 where
  pub times : RuleTimes states counts spans rs
  pub drawable : Drawable replacing range_counts ranges rows sizes cuts (length states) rs
  pub passed : Passed sizes rs

-- the same of tables and rows as they are lent
abbrev pub Lent : DrainedRules → Cuts → List Rule → Type 0
Lent r c rs =
    ToDraw r.states.now r.span_counts.now r.spans.now r.replacing.now r.range_counts.now r.ranges.now c.row_starts.now c.sizes.now c.cuts.now rs
