-- The numbers of each answer, in their order, as contracts and promises compare them.
use Rattle.std.specs.Prelude.{List, [], ◌∷◌, ℕ}
use Rattle.definition.specs.Lookup.{Looked}
use Rattle.answers.specs.declared.Folded.{Folded}
use Rattle.answers.specs.declared.Answer.{Answer}
use Rattle.answers.specs.declared.Written.{Written}

-- code, drained, emitted, left, bytes, place and why
abbrev pub fold_numbers : Folded → List ℕ
fold_numbers r = r.code ∷ r.drained ∷ r.emitted ∷ r.left ∷ r.bytes ∷ r.place ∷ r.why ∷ []

-- code, kind, comment and place, as the definition looks a state up
abbrev pub looked_up : Answer → Looked
looked_up a = record { code = a.code; kind = a.kind; comment = a.comment; place = a.place }

-- code, bytes written and place
abbrev pub write_numbers : Written → List ℕ
write_numbers r = r.code ∷ r.bytes ∷ r.place ∷ []
