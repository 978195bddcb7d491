-- A refused sheet is refused as the definition refuses it, and any other is moved.
use mathlib.Core.Path.{refl}
use lib.ListN.{length}
use native.Mathlib.Omega.{arith}
use Rattle.field.proofs.Bytes.{known_bytes}
use Rattle.forms.proofs.Numbers.{narrow}
use Rattle.definition.specs.Fold.{written_numbers}
use Rattle.hours.proofs.Entries.{of-same}
use Rattle.hours.proofs.Checked.{rules-read, converts-read, convert-refused}
use Rattle.hours.proofs.in_form.convert.Goals as goal

pub convert_rules-requires : goal.convert_rules-requires
convert_rules-requires c =
    rules-read _ _ _ c.check.ensures.0 _ _ c.check.ensures.1 c.requires (known_bytes c.args.sheet.now (λ j. omega (arith, c.type_inv.sheet j))) (narrow c.args.form) _ c.in-Ok.is

pub returns-in-Ok : goal.returns-in-Ok
returns-in-Ok c =
    let a = c.args in
    let read = rules-read _ _ _ c.check.ensures.0 _ _ c.check.ensures.1 c.requires (known_bytes c.args.sheet.now (λ j. omega (arith, c.type_inv.sheet j))) (narrow a.form) _ c.in-Ok.is in
    let same = converts-read _ _ a.sheet.now (length a.out.now) read.0 _ read.1.0.read in
    of-same written_numbers (λ w. w.result) _ same (c.convert_rules.ensures read.0 read.1.0 read.1.1)

pub returns-in-Err : goal.returns-in-Err
returns-in-Err c =
    let a = c.args in
    let same = convert-refused _ a.sheet.now _ c.check.ensures.0 _ (length a.out.now) _ c.in-Err.is in
    of-same written_numbers (λ w. w.result) a.out.now same (c.refused.ensures, refl)
