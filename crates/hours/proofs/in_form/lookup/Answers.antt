-- A refused sheet is refused as the definition refuses it, and else the date is looked up in its rules.
use mathlib.Core.Path.{sym, ◌∙◌}
use native.Mathlib.Omega.{arith}
use Rattle.field.proofs.Bytes.{known_bytes}
use Rattle.forms.proofs.Numbers.{narrow}
use Rattle.lookup.proofs.Cases.{look-refused}
use Rattle.hours.proofs.Checked.{rules-read, sheet-refused}
use Rattle.hours.proofs.in_form.lookup.Goals as goal

pub look_rules-requires : goal.look_rules-requires
look_rules-requires c =
    let rules = rules-read _ _ _ c.check.ensures.0 _ _ c.check.ensures.1 c.requires (known_bytes c.args.sheet.now (λ j. omega (arith, c.type_inv.sheet j))) (narrow c.args.form) _ c.in-Ok.is in
    (rules.0, (_, rules.1))

pub returns-in-Err : goal.returns-in-Err
returns-in-Err c =
    let a = c.args in
    c.refused.ensures
    ∙ sym (look-refused _ a.sheet.now a.year a.month a.day a.minute _ _ (sheet-refused _ a.sheet.now _ c.check.ensures.0 _ c.in-Err.is))
