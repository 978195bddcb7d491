-- What a fold requires, stage after stage, and what its answer and buffer are: those of the definition.
use Rattle.std.specs.Prelude.{◌≡◌, List, Result, ℕ, ◌≤◌, length}
use Rattle.std.proofs.Math.Option.{none}
use Rattle.definition.specs.Field.{got}
use Rattle.definition.specs.Rule.{Rule}
use Rattle.definition.specs.Sheet.{Form, sheet_limits, decode}
use Rattle.definition.specs.Stop.{drained}
use Rattle.definition.specs.Point.{dimensions}
use Rattle.definition.specs.Box.{box_count}
use Rattle.definition.specs.Overlap.{first_overlap}
use Rattle.definition.specs.Fold.{numbers, buffer, fold}
use Rattle.answers.specs.declared.Folded.{Folded}
use Rattle.answers.specs.Numbers.{fold_numbers}
use Rattle.sheet.specs.Parts.{Leaving}
use Rattle.tables.specs.Rules.{AllCommented}
use Rattle.answers.specs.declared.refusal.Refusal.{Refusal}
use Rattle.paved.specs.Paved.{Paves}
use Rattle.tables.specs.declared.lent.Cuts.{Cuts}
use Rattle.tables.specs.declared.lent.DrainedRules.{DrainedRules}
use Rattle.tables.specs.ToDraw.{Lent}
use Rattle.fold_write.specs.declared.Left.{Left}

-- A SHEET'S RULES, the drained ones in tables and their cuts in rows, passed by 11 and 5; and where the rules left stand
pub record Foldable (form : Form) (sheet : List ℕ) (left : Left) (rules : DrainedRules) (cuts : Cuts) (rs : List Rule) : Type 0 where
  pub end : ℕ
  pub read : decode form sheet_limits sheet ≡ got rs end
  pub commented : AllCommented form (drained rs)
  pub leaving : Leaving form sheet rs left.start left.end (length rules.states.now) left.rules left.why
  pub to-draw : Lent rules cuts (drained rs)

-- the same sheet when an engine has answered about its drained rules
pub record ToWrite (form : Form) (sheet : List ℕ) (left : Left) (rules : DrainedRules) (lists pages : List ℕ) (paved : Result ℕ Refusal) (rs : List Rule) : Type 0 where
  pub end : ℕ
  pub read : decode form sheet_limits sheet ≡ got rs end
  pub commented : AllCommented form (drained rs)
  pub leaving : Leaving form sheet rs left.start left.end (length rules.states.now) left.rules left.why
  pub apart : first_overlap (drained rs) ≡ none
  pub few-boxes : box_count dimensions (drained rs) ≤ sheet_limits.boxes
  pub paves : Paves rules.states.now rules.span_counts.now rules.spans.now lists pages (drained rs) paved

-- the seven numbers, and the buffer `out` afterwards
abbrev pub Folds : Form → List ℕ → List ℕ → Folded → List ℕ → Type 0
Folds form sheet out r after = (fold_numbers r ≡ numbers (fold form sheet_limits (length out) sheet)) × (after ≡ buffer (fold form sheet_limits (length out) sheet).result out)
