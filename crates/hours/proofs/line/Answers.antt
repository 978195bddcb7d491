-- In the form that the number names, or refused.
use mathlib.Core.List.{List}
use Prim.Native.Nat.{ℕ}
use mathlib.Core.Path.{refl}
use lib.ListN.{length}
use Rattle.definition.specs.Sheet.{Form, sheet_limits}
use Rattle.definition.specs.Fold.{Written, written_numbers, unwritten}
use Rattle.definition.specs.Show.{show_line}
use Rattle.definition.specs.Forms.{show_line_in}
use Rattle.hours.proofs.Entries.{few-places, all-places, of-same, form-known, form-unknown}
use Rattle.hours.proofs.line.Goals as goal

-- what the definition answers in a form
abbrev answer : List ℕ → List ℕ → Form → Written
answer out sheet form = show_line form sheet_limits (length out) sheet

pub line-requires : goal.line-requires
line-requires c = few-places _ c.if-sheet-le-FEW_BYTES.true

pub line-requires-2 : goal.line-requires-2
line-requires-2 c = all-places _

pub returns-then-sheet-le-FEW_BYTES : goal.returns-then-sheet-le-FEW_BYTES
unfolding show_line_in
returns-then-sheet-le-FEW_BYTES c =
    of-same written_numbers (λ w. w.result) _ (form-known unwritten (answer c.args.out.now c.args.sheet.now) c.args.form _ c.form_of.ensures _ c.in-Some.is) c.line.ensures

pub returns : goal.returns
unfolding show_line_in
returns c =
    of-same written_numbers (λ w. w.result) _ (form-known unwritten (answer c.args.out.now c.args.sheet.now) c.args.form _ c.form_of.ensures _ c.in-Some.is) c.line-2.ensures

pub returns-in_default : goal.returns-in_default
unfolding show_line_in
returns-in_default c =
    let unknown = form-unknown unwritten (answer c.args.out.now c.args.sheet.now) c.args.form _ c.form_of.ensures c.in_default.is in
    of-same written_numbers (λ w. w.result) c.args.out.now unknown (c.refused.ensures, refl)
