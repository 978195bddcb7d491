-- What the answer of an engine says in each of its cases.
use mathlib.Core.Path.{◌≡◌, sym, ap, ◌∙◌, subst}
use mathlib.Core.List.{List}
use mathlib.Core.Option.{some, none}
use Prim.Native.Nat.{ℕ}
use Rattle.definition.specs.Rule.{Rule}
use Rattle.definition.specs.Sheet.{Form, sheet_limits}
use Rattle.definition.specs.Lists.{first_refused}
use Rattle.tables.specs.Rules.{AllCommented}
use Rattle.tables.specs.Pages.{Paged}
use Rattle.std.specs.Prelude.{Result, Ok, Err}
use Rattle.std.specs.Result.{IsErrAnd}
use Rattle.std.proofs.lemmas.Result.{err_from_is_err_and}
use Rattle.answers.specs.Refusal.{code_of}
use Rattle.answers.specs.declared.refusal.Refusal.{Refusal}
use Rattle.paved.specs.Paved.{Paves}

module _ (states counts spans lists pages : List ℕ) (rs : List Rule) where
  -- ## Said
  pub paves-refused : (r : Refusal) → first_refused sheet_limits rs ≡ some (code_of r.reason, r.place) → Paves states counts spans lists pages rs (Err r)
  unfolding Paves
  paves-refused r e = e

  pub paves-passed : (r : Result ℕ Refusal) (e : Refusal) → IsErrAnd r (λ y. y ≡ e) → first_refused sheet_limits rs ≡ some (code_of e.reason, e.place)
      → Paves states counts spans lists pages rs r
  paves-passed r e h w =
      let p = err_from_is_err_and r h in
      subst (Paves states counts spans lists pages rs) (sym (p.1 ∙ ap Err p.2)) (paves-refused e w)

  pub paves-pages : (n : ℕ) → first_refused sheet_limits rs ≡ none → ((form : Form) → AllCommented form rs → Paged form states counts spans lists pages n rs)
      → Paves states counts spans lists pages rs (Ok n)
  unfolding Paves
  paves-pages n e paged = (e, paged)

  -- ## Read
  module _ (paved : Result ℕ Refusal) (told : Paves states counts spans lists pages rs paved) where
    pub paved-refused : (r : Refusal) → paved ≡ Err r → first_refused sheet_limits rs ≡ some (code_of r.reason, r.place)
    unfolding Paves
    paved-refused r e = subst (Paves states counts spans lists pages rs) e told

    pub paved-pages : (n : ℕ) → paved ≡ Ok n
        → (first_refused sheet_limits rs ≡ none) × ((form : Form) → AllCommented form rs → Paged form states counts spans lists pages n rs)
    unfolding Paves
    paved-pages n e = subst (Paves states counts spans lists pages rs) e told
