-- What `prepare` answers of a sheet that was read, and leaves of it: the tables of its drained rules, and the rows of their cuts.
use Rattle.std.specs.Prelude.{◌≡◌, List, ℕ, ◌*◌, length, take, Result, Ok, Err}
use Rattle.definition.specs.Rule.{Rule}
use Rattle.definition.specs.Sheet.{Form, sheet_limits}
use Rattle.definition.specs.Stop.{drained, why}
use Rattle.definition.specs.Fold.{over, drain}
use Rattle.sheet.specs.Parts.{SheetRead}
use Rattle.tables.specs.Rules.{RuleTimes}
use Rattle.tables.specs.Cuts.{Cut, Drawable}
use Rattle.tables.specs.ToDraw.{Passed}
use Rattle.answers.specs.Refusal.{code_of}
use Rattle.answers.specs.declared.refusal.Refusal.{Refusal}
use Rattle.draining.specs.declared.Drained.{Drained}

-- ## A sheet
-- so many rules are read from a sheet, and it is noted where they begin
abbrev pub RulesRead : Form → List ℕ → List ℕ → ℕ → Type 0
RulesRead form sheet begins n = (rs : List Rule) × ((end : ℕ) × (SheetRead form sheet begins rs end × (n ≡ length rs)))

-- a fact of the rules that are read
abbrev pub EachReading : Form → List ℕ → List ℕ → ℕ → (List Rule → Type 0) → Type 0
EachReading form sheet begins n P = (rs : List Rule) (end : ℕ) → SheetRead form sheet begins rs end → n ≡ length rs → P rs

-- ## Its drained rules
-- THE ANSWER about so many rules ds in tables: the rows of their cuts; or the definition's refusal
unfoldable pub JudgesDays : (rows sizes cuts : List ℕ) → ℕ → ℕ → List Rule → Result Drained Refusal → Type 0
JudgesDays rows sizes cuts rules reason ds (Ok d) = (d.rules ≡ rules) × (d.why ≡ reason) × Cut rows sizes cuts ds × Passed sizes ds
JudgesDays rows sizes cuts rules reason ds (Err r) = drain sheet_limits ds ≡ over (code_of r.reason) r.place

-- THE TABLES of so many rules, and the rows of their cuts
pub record Prepared (states counts spans replacing range_counts ranges rows sizes cuts : List ℕ) (rs : List Rule) (n : ℕ) : Type 0 where
  pub rules-many : n ≡ length rs
  pub times : RuleTimes (take n states) (take n counts) (take (n * 16) spans) rs
  pub drawable : Drawable replacing range_counts ranges rows sizes cuts n rs
  pub passed : Passed sizes rs

-- THE ANSWER about a sheet's rules: the tables of the drained ones, and why the next one stopped; or the definition's refusal
unfoldable pub Judges : (states counts spans replacing range_counts ranges rows sizes cuts : List ℕ) → List Rule → Result Drained Refusal → Type 0
Judges states counts spans replacing range_counts ranges rows sizes cuts rs (Ok d) =
    Prepared states counts spans replacing range_counts ranges rows sizes cuts (drained rs) d.rules × (d.why ≡ why rs)
Judges states counts spans replacing range_counts ranges rows sizes cuts rs (Err r) = drain sheet_limits (drained rs) ≡ over (code_of r.reason) r.place
