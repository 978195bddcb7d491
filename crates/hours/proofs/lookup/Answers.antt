-- In the form that the number names, or refused.
use mathlib.Core.List.{List}
use Prim.Native.Nat.{ℕ}
use mathlib.Core.Path.{sym, ◌∙◌}
use Rattle.definition.specs.Sheet.{Form, sheet_limits}
use Rattle.definition.specs.Lookup.{Looked, refusal, lookup}
use Rattle.definition.specs.Forms.{lookup_in}
use Rattle.hours.proofs.Entries.{few-places, all-places, form-known, form-unknown}
use Rattle.hours.proofs.lookup.Goals as goal

-- what the definition answers in a form
abbrev answer : List ℕ → ℕ → ℕ → ℕ → ℕ → Form → Looked
answer sheet year month day minute form = lookup form sheet_limits sheet year month day minute

pub lookup-requires : goal.lookup-requires
lookup-requires c = few-places _ c.if-sheet-le-FEW_BYTES.true

pub lookup-requires-2 : goal.lookup-requires-2
lookup-requires-2 c = all-places _

pub returns-then-sheet-le-FEW_BYTES : goal.returns-then-sheet-le-FEW_BYTES
unfolding lookup_in
returns-then-sheet-le-FEW_BYTES c = c.lookup.ensures ∙ sym (form-known refusal (answer c.args.sheet.now c.args.year c.args.month c.args.day c.args.minute) c.args.form _ c.form_of.ensures _ c.in-Some.is)

pub returns : goal.returns
unfolding lookup_in
returns c = c.lookup-2.ensures ∙ sym (form-known refusal (answer c.args.sheet.now c.args.year c.args.month c.args.day c.args.minute) c.args.form _ c.form_of.ensures _ c.in-Some.is)

pub returns-in_default : goal.returns-in_default
unfolding lookup_in
returns-in_default c =
    c.refused.ensures
    ∙ sym (form-unknown refusal (answer c.args.sheet.now c.args.year c.args.month c.args.day c.args.minute) c.args.form _ c.form_of.ensures c.in_default.is)
