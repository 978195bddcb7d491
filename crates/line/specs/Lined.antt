-- What is answered for n rules whose beginnings were noted, and what the buffer then holds.
use Rattle.std.specs.Prelude.{◌≡◌, List, ℕ, suc, length, Result, Ok, Err}
use Rattle.std.proofs.Math.Option.{none, some}
use Rattle.std.proofs.lemmas.List.Edits.{sets}
use Rattle.definition.specs.Rule.{Rule}
use Rattle.definition.specs.Sheet.{Form}
use Rattle.definition.specs.Line.{line_of}
use Rattle.definition.specs.Show.{first_wordless}
use Rattle.sheet.specs.Rules.{rules_at}
use Rattle.text.specs.Put.{Put}
use Rattle.answers.specs.declared.refusal.Refusal.{Refusal}
use Rattle.answers.specs.declared.refusal.Reason.TheVariants.{NoWords}

-- the whole line, or the rules up to the first that has no words
abbrev pub Lines : Form → List ℕ → List ℕ → ℕ → List ℕ → Result ℕ Refusal → List ℕ → Type 0
Lines form s begins n out (Ok q) after = (first_wordless (rules_at form s begins n) ≡ none) × Put out 0 (line_of (rules_at form s begins n)) q after
Lines form s begins n out (Err r) after =
    (r.reason ≡ NoWords) × (first_wordless (rules_at form s begins n) ≡ some r.place) × (after ≡ sets out 0 (line_of (rules_at form s begins (suc r.place))))

-- its length, or that rule
abbrev pub Measured : List Rule → Result ℕ Refusal → Type 0
Measured rs (Ok q) = (first_wordless rs ≡ none) × (q ≡ length (line_of rs))
Measured rs (Err r) = (r.reason ≡ NoWords) × (first_wordless rs ≡ some r.place)
