-- What an engine answers: the first refusal, or pages of the folded rules.
use Rattle.std.specs.Prelude.{◌≡◌, List, Result, Ok, Err, ℕ}
use Rattle.std.proofs.Math.Option.{none, some}
use Rattle.definition.specs.Rule.{Rule}
use Rattle.definition.specs.Sheet.{Form, sheet_limits}
use Rattle.definition.specs.Lists.{first_refused}
use Rattle.tables.specs.Rules.{AllCommented}
use Rattle.tables.specs.Pages.{Paged}
use Rattle.answers.specs.Refusal.{code_of}
use Rattle.answers.specs.declared.refusal.Refusal.{Refusal}

-- THE ANSWER about rules rs
unfoldable pub Paves : (states counts spans lists pages : List ℕ) → List Rule → Result ℕ Refusal → Type 0
Paves states counts spans lists pages rs (Ok n) =
    (first_refused sheet_limits rs ≡ none) × ((form : Form) → AllCommented form rs → Paged form states counts spans lists pages n rs)
Paves states counts spans lists pages rs (Err r) = first_refused sheet_limits rs ≡ some (code_of r.reason, r.place)
