-- Which form a number names, case by case; and what is known of the widths of both forms.
use mathlib.Core.Path.{◌≡◌}
use mathlib.Core.Option.{none, some}
use Prim.Native.Nat.{ℕ, suc, ◌≤◌, ◌<◌, ◌^◌}
use native.Mathlib.Omega.{arith}
use borrow.Author.Tests.{eq-eqb, ne_eqb}
use Rattle.definition.specs.Sheet.{form1, form2, most_items}
use Rattle.definition.specs.Forms.{form_named}
use Rattle.forms.specs.Form.{as_form, Narrow}
use Rattle.forms.specs.declared.Form.{Form}
use Rattle.forms.specs.declared.Form.TheVariants.{One, Two}

module _ (n : ℕ) where
  pub names-one : n ≡ 1 → some form1 ≡ form_named n
  unfolding form_named
  names-one e = rw (eq-eqb n 1 e)

  pub names-two : n ≡ 2 → some form2 ≡ form_named n
  unfolding form_named
  names-two e = rw (ne_eqb n 1 (λ z. omega arith), eq-eqb n 2 e)

  pub names-none : (n ≡ 1 → ⊥) → (n ≡ 2 → ⊥) → none ≡ form_named n
  unfolding form_named
  names-none e f = rw (ne_eqb n 1 e, ne_eqb n 2 f)

pub narrow : (form : Form) → Narrow (as_form form)
narrow One = record { opening-narrow = omega arith; head-narrow = omega arith; head-wide = omega arith; comment-narrow = omega arith }
narrow Two = record { opening-narrow = omega arith; head-narrow = omega arith; head-wide = omega arith; comment-narrow = omega arith }

-- what ten bits can count, the counts of either form can
pub count_fits : (form : Form) (width count : ℕ) → width ≡ (as_form form).item_count → count < 2 ^ 10 → count < 2 ^ width
count_fits One width count e l = rw e l
count_fits Two width count e l = rw e (omega arith)

-- ten bits are no more than the counts of either form have
pub items-wide : (form : Form) → 2 ^ 10 ≤ suc (most_items (as_form form))
items-wide One = omega arith
items-wide Two = omega arith

-- what sixteen bits can count, the rule counts of either form can
pub rules-fit : (form : Form) (count : ℕ) → count < 2 ^ 16 → count < 2 ^ (as_form form).rule_count
rules-fit One count l = l
rules-fit Two count l = omega arith

-- each form's mark stands in the bits that it has for it
pub mark-fits : (form : Form) (width mark : ℕ) → width ≡ (as_form form).mark_width → mark ≡ (as_form form).mark → mark < 2 ^ width
mark-fits One width mark e m = rw (e, m) (omega arith)
mark-fits Two width mark e m = rw (e, m) (omega arith)
