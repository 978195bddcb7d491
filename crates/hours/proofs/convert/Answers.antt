-- In the form that the number names, or refused.
use mathlib.Core.List.{List}
use Prim.Native.Nat.{ℕ}
use mathlib.Core.Path.{refl}
use lib.ListN.{length}
use Rattle.definition.specs.Sheet.{Form, sheet_limits}
use Rattle.definition.specs.Fold.{Written, written_numbers, unwritten}
use Rattle.definition.specs.Forms.{convert, other, convert_in}
use Rattle.hours.proofs.Entries.{few-places, all-places, of-same, form-known, form-unknown}
use Rattle.hours.proofs.convert.Goals as goal

-- what the definition answers in a form
abbrev answer : List ℕ → List ℕ → Form → Written
answer out sheet form = convert form (other form) sheet_limits (length out) sheet

pub convert-requires : goal.convert-requires
convert-requires c = few-places _ c.if-sheet-le-FEW_BYTES.true

pub convert-requires-2 : goal.convert-requires-2
convert-requires-2 c = all-places _

pub returns-then-sheet-le-FEW_BYTES : goal.returns-then-sheet-le-FEW_BYTES
unfolding convert_in
returns-then-sheet-le-FEW_BYTES c =
    of-same written_numbers (λ w. w.result) _ (form-known unwritten (answer c.args.out.now c.args.sheet.now) c.args.form _ c.form_of.ensures _ c.in-Some.is) c.convert.ensures

pub returns : goal.returns
unfolding convert_in
returns c =
    of-same written_numbers (λ w. w.result) _ (form-known unwritten (answer c.args.out.now c.args.sheet.now) c.args.form _ c.form_of.ensures _ c.in-Some.is) c.convert-2.ensures

pub returns-in_default : goal.returns-in_default
unfolding convert_in
returns-in_default c =
    let unknown = form-unknown unwritten (answer c.args.out.now c.args.sheet.now) c.args.form _ c.form_of.ensures c.in_default.is in
    of-same written_numbers (λ w. w.result) c.args.out.now unknown (c.refused.ensures, refl)
