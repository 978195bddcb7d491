-- An entry by the caller's number: in the form that it names, with places enough for where the rules begin; or refused.
use mathlib.Core.Path.{◌≡◌, sym, ap, ◌∙◌}
use mathlib.Core.List.{List}
use mathlib.Core.Option.{none, some}
use Prim.Native.Nat.{ℕ, ◌≤◌}
use Rattle.std.specs.Prelude.{Option, Some, None}
use native.Mathlib.Omega.{arith}
use Rattle.definition.specs.Field.{unlawful}
use Rattle.definition.specs.Sheet as sheet
use Rattle.definition.specs.Fold.{buffer}
use Rattle.definition.specs.Forms.{form_named, in_form}
use Rattle.forms.specs.Form.{as_form, as_named}
use Rattle.forms.specs.declared.Form.{Form}
use Rattle.sheet.specs.Rules.{Places}

-- a short sheet has fewer than 64 rules, and no sheet has more than 256
pub few-places : (bytes : ℕ) → bytes ≤ 512 → Places bytes 64
few-places bytes short i low begins = omega (arith, short, begins)

pub all-places : (bytes : ℕ) → Places bytes 256
all-places bytes i low begins = omega (arith, low)

-- numbers and a buffer that are one answer's are those of an answer that is the same
pub of-same : {A : Type 0} (numbers result : A → List ℕ) (out : List ℕ) {a b : A} → a ≡ b → {ns after : List ℕ}
    → (ns ≡ numbers b) × (after ≡ buffer (result b) out) → (ns ≡ numbers a) × (after ≡ buffer (result a) out)
of-same numbers result out same given = (given.0 ∙ sym (ap numbers same), given.1 ∙ sym (ap (λ a. buffer (result a) out) same))

module _ {A : Type 0} (refusal : ℕ → ℕ → A) (entry : sheet.Form → A) (n : ℕ) where
  pub in-named : (form : sheet.Form) → form_named n ≡ some form → in_form refusal entry n ≡ entry form
  unfolding in_form
  in-named form e = rw (e, in_form)

  pub in-none : form_named n ≡ none → in_form refusal entry n ≡ refusal unlawful 0
  unfolding in_form
  in-none e = rw (e, in_form)

  -- by what the test of the number answered
  module _ (r : Option Form) (answer : as_named r ≡ form_named n) where
    pub form-known : (form : Form) → r ≡ Some form → in_form refusal entry n ≡ entry (as_form form)
    form-known form e = in-named (as_form form) (sym answer ∙ ap as_named e)

    pub form-unknown : r ≡ None → in_form refusal entry n ≡ refusal unlawful 0
    form-unknown e = in-none (sym answer ∙ ap as_named e)
