-- A refused sheet is refused as the definition refuses it, and the rules of any other are folded.
use native.Mathlib.Omega.{arith}
use Rattle.field.proofs.Bytes.{known_bytes}
use Rattle.forms.proofs.Numbers.{narrow}
use Rattle.normalize.proofs.Answers as answers
use Rattle.hours.proofs.Checked.{rules-read, sheet-refused}
use Rattle.hours.proofs.in_form.fold.Goals as goal

pub fold_rules-requires : goal.fold_rules-requires
fold_rules-requires c =
    rules-read _ _ _ c.check.ensures.0 _ _ c.check.ensures.1 c.requires (known_bytes c.args.sheet.now (λ j. omega (arith, c.type_inv.sheet j))) (narrow c.args.form) _ c.in-Ok.is

pub returns-in-Err : goal.returns-in-Err
returns-in-Err c =
    let a = c.args in
    answers.sheet-refused _ a.sheet.now a.out.now _ _ _ (sheet-refused _ a.sheet.now _ c.check.ensures.0 _ c.in-Err.is) c.refused.ensures
