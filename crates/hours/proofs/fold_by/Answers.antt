-- In the form that the number names, or refused.
use mathlib.Core.List.{List}
use Prim.Native.Nat.{ℕ}
use mathlib.Core.Path.{refl}
use lib.ListN.{length}
use Rattle.definition.specs.Sheet.{Form, sheet_limits}
use Rattle.definition.specs.Fold.{Folded, numbers, refusal, fold}
use Rattle.definition.specs.Forms.{fold_in}
use Rattle.hours.proofs.Entries.{few-places, all-places, of-same, form-known, form-unknown}
use Rattle.hours.proofs.fold_by.Goals as goal

-- what the definition answers in a form
abbrev answer : List ℕ → List ℕ → Form → Folded
answer out sheet form = fold form sheet_limits (length out) sheet

pub fold-requires : goal.fold-requires
fold-requires c = few-places _ c.if-sheet-le-FEW_BYTES.true

pub fold-requires-2 : goal.fold-requires-2
fold-requires-2 c = all-places _

pub returns-then-sheet-le-FEW_BYTES : goal.returns-then-sheet-le-FEW_BYTES
unfolding fold_in
returns-then-sheet-le-FEW_BYTES c =
    of-same numbers (λ w. w.result) _ (form-known refusal (answer c.args.out.now c.args.sheet.now) c.args.form _ c.form_of.ensures _ c.in-Some.is) c.fold.ensures

pub returns : goal.returns
unfolding fold_in
returns c =
    of-same numbers (λ w. w.result) _ (form-known refusal (answer c.args.out.now c.args.sheet.now) c.args.form _ c.form_of.ensures _ c.in-Some.is) c.fold-2.ensures

pub returns-in_default : goal.returns-in_default
unfolding fold_in
returns-in_default c =
    let unknown = form-unknown refusal (answer c.args.out.now c.args.sheet.now) c.args.form _ c.form_of.ensures c.in_default.is in
    of-same numbers (λ w. w.result) c.args.out.now unknown (c.refused.ensures, refl)
