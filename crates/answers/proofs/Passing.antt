-- A refusal that a `?` passes on: the whole answers what the part was refused by.
use Rattle.std.proofs.Common.{◌≡◌, ℕ, Result, ap, sym, ◌∙◌}
use Rattle.std.specs.Result.{IsErrAnd}
use Rattle.std.proofs.lemmas.Result.{err_from_is_err_and}
use Rattle.definition.specs.Field.{Read, refused}
use Rattle.answers.specs.declared.refusal.Refusal.{Refusal}
use Rattle.answers.specs.Refusal.{code_of, read_as}

pub passed_on : {A B : Type 0} (make : A → B) (r : Result (A × ℕ) Refusal) (e : Refusal) (whole : Read B) → IsErrAnd r (λ y. y ≡ e)
    → whole ≡ refused (code_of e.reason) e.place → read_as make r ≡ whole
passed_on make r e whole h w = let p = err_from_is_err_and r h in ap (read_as make) p.1 ∙ ap (λ y. refused (code_of y.reason) y.place) p.2 ∙ sym w
