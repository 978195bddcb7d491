-- A refused sheet is refused as the definition refuses it, and of any other the line is shown.
use mathlib.Core.Path.{refl, sym}
use lib.ListN.{length}
use native.Mathlib.Omega.{arith}
use Rattle.field.proofs.Bytes.{known_bytes}
use Rattle.forms.proofs.Numbers.{narrow}
use Rattle.definition.specs.Fold.{written_numbers}
use Rattle.hours.proofs.Entries.{of-same}
use Rattle.hours.proofs.Checked.{line-begins, line_read, line_refused}
use Rattle.hours.proofs.in_form.line.Goals as goal

pub line_of-requires : goal.line_of-requires
line_of-requires c =
    line-begins _ _ _ c.check.ensures.0 (narrow c.args.form) (known_bytes c.args.sheet.now (λ j. omega (arith, c.type_inv.sheet j))) _ _ c.check.ensures.1 c.requires _ c.in-Ok.is

pub returns-in-Ok : goal.returns-in-Ok
returns-in-Ok c =
    let a = c.args in
    let same = line_read _ a.sheet.now _ c.check.ensures.0 (narrow a.form) (known_bytes c.args.sheet.now (λ j. omega (arith, c.type_inv.sheet j))) _ _ c.check.ensures.1 c.requires _ c.in-Ok.is (length a.out.now) in
    of-same written_numbers (λ w. w.result) _ (sym same) c.line_of.ensures

pub returns-in-Err : goal.returns-in-Err
returns-in-Err c =
    let a = c.args in
    let same = line_refused _ a.sheet.now _ c.check.ensures.0 (length a.out.now) _ c.in-Err.is in
    of-same written_numbers (λ w. w.result) a.out.now same (c.refused.ensures, refl)
