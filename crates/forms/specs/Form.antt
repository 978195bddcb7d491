-- What the code's forms stand for: the definition's.
use Rattle.std.proofs.Math.Option as maybe
use Rattle.std.specs.Prelude.{Option, Some, None, ◌≤◌, ◌^◌}
use Rattle.definition.specs.Sheet as sheet
use Rattle.forms.specs.declared.Form.{Form}
use Rattle.forms.specs.declared.Form.TheVariants.{One, Two}

abbrev pub as_form : Form → sheet.Form
as_form One = sheet.form1
as_form Two = sheet.form2

-- of the code's `Option`, the definition's
abbrev pub as_named : Option Form → maybe.Option sheet.Form
as_named (Some form) = maybe.some (as_form form)
as_named None = maybe.none

-- all that readers need to know of a form's widths: how far a sheet's opening and a rule's head go at most, so that no place in a sheet is too large for a
-- number; how far a head goes at least, so that a short sheet has few rules; and that form 2 has room for every comment
pub record Narrow (form : sheet.Form) : Type 0 where
  pub opening-narrow : sheet.opening_width form ≤ 28
  pub head-narrow : sheet.head_width form ≤ 88
  pub head-wide : 70 ≤ sheet.head_width form
  pub comment-narrow : 2 ^ form.comment ≤ 2 ^ 24
