-- What the lookup answers for a point and a minute, whichever date has the point; and the drained rules that it draws.
use Rattle.std.specs.Prelude.{◌≡◌, List, ℕ, ◌+◌, length}
use Rattle.definition.specs.Rule.{Rule}
use Rattle.definition.specs.Sheet.{sheet_limits}
use Rattle.definition.specs.Stop.{drained, left}
use Rattle.definition.specs.Point.{list_at}
use Rattle.definition.specs.Fold.{fine, over, drain}
use Rattle.definition.specs.Lookup.{Looked, refusal, state_at}
use Rattle.tables.specs.declared.lent.Cuts.{Cuts}
use Rattle.tables.specs.declared.lent.DrainedRules.{DrainedRules}
use Rattle.tables.specs.ToDraw.{Lent}

-- 11, 5 and 6, or the state by the list at the point
unfoldable pub look_at : List Rule → List ℕ → ℕ → Looked
look_at rs p m = elim (drain sheet_limits (drained rs)) [ over c q ↦ refusal c q | fine ↦ state_at (left rs) (list_at (drained rs) p) m ]

-- A SHEET'S RULES, the drained ones in tables and their cuts in rows, passed by 11 and 5, and so many left
pub record Lookable (rules : DrainedRules) (cuts : Cuts) (left : ℕ) (rs : List Rule) : Type 0 where
  pub to-draw : Lent rules cuts (drained rs)
  pub counted : length rules.states.now + left ≡ length rs
