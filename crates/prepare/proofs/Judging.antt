-- HOW THE DRAINED RULES ARE JUDGED before they are drawn: 11, 5, or passed. Rests on the judgement by cases.
use mathlib.Core.Path.{◌≡◌, sym, ap, ◌∙◌}
use mathlib.Core.List.{List}
use mathlib.Core.Option.{none}
use Prim.Native.Nat.{ℕ, ◌≤◌, ◌<◌}
use native.Mathlib.Omega.{arith}
use borrow.Author.Tests.{lt-ltb, le-ltb}
use Rattle.laws.specs.Lists.{only_if}
use Rattle.definition.specs.Field.{days_twice, many_boxes}
use Rattle.definition.specs.Rule.{Rule}
use Rattle.definition.specs.Sheet.{sheet_limits}
use Rattle.definition.specs.Point.{dimensions}
use Rattle.definition.specs.Overlap.{first_overlap}
use Rattle.definition.specs.Box.{box_count}
use Rattle.definition.specs.Fold.{over, drain}
use Rattle.definition.proofs.Drained.{drain-twice, drain-many}
use Rattle.tables.specs.Cuts.{Cut}
use Rattle.overlap.specs.Overlap.{Overlapping}
use Rattle.paving_cuts.proofs.ByRules.{boxes-counted}
use Rattle.tables.specs.ToDraw.{Passed}

module _ (ds : List Rule) (n twice : ℕ) (asked : Overlapping ds n twice) where
  -- 11
  pub twice-refused : twice < n → drain sheet_limits ds ≡ over days_twice twice
  twice-refused h = drain-twice sheet_limits ds twice (asked.first ∙ ap (λ b. only_if b twice) (lt-ltb twice n h))

  module _ (h : n ≤ twice) where
    apart : first_overlap ds ≡ none
    apart = asked.first ∙ ap (λ b. only_if b twice) (le-ltb twice n h)

    module _ (boxes : ℕ) (many : boxes ≡ box_count dimensions ds) where
      -- 5
      pub boxes-refused : sheet_limits.boxes < boxes → drain sheet_limits ds ≡ over many_boxes boxes
      boxes-refused more = drain-many sheet_limits ds apart (omega (arith, many, more)) ∙ ap (over many_boxes) (sym many)

      -- neither
      pub rules-passed : (rows sizes cuts : List ℕ) → Cut rows sizes cuts ds → boxes ≤ sheet_limits.boxes → Passed sizes ds
      rules-passed rows sizes cuts c few = record { apart = apart; few-boxes = omega (arith, boxes-counted rows sizes cuts ds dimensions c.cut_by, many, few) }
