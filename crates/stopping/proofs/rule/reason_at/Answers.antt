-- `stopping::rule::reason_at` meets its contract: by the operator, and else by the parts.
use mathlib.Core.Path.{sym, ◌∙◌}
use Rattle.definition.specs.Field.{sheet_bits}
use Rattle.forms.specs.Form.{as_form}
use Rattle.sheet.specs.Begin.{rule_read_at}
use Rattle.sheet.proofs.Titles.{title-same, title-refused}
use Rattle.stopping.proofs.Meaning.{fallback-reason, other-reason}
use Rattle.stopping.proofs.rule.reason_at.Goals as goal

pub returns-in_default : goal.returns-in_default
returns-in_default c = title-refused _ _ _ c.requires.readable _ _ (sym c.in_default.ensures)

pub returns-then-is_fallback : goal.returns-then-is_fallback
returns-then-is_fallback c =
    let s = sheet_bits c.args.sheet.now in
    let operator = (title-same _ s _ c.requires.readable _ _ _ _ (sym c.in-Ok.ensures)).0 in
    fallback-reason (rule_read_at (as_form c.args.form) s c.args.at) _ operator (sym c.is_fallback.ensures ∙ c.if-is_fallback.true)

pub returns-else-is_fallback : goal.returns-else-is_fallback
returns-else-is_fallback c =
    let s = sheet_bits c.args.sheet.now in
    let operator = (title-same _ s _ c.requires.readable _ _ _ _ (sym c.in-Ok.ensures)).0 in
    c.parts_reason.ensures
    ∙ other-reason (rule_read_at (as_form c.args.form) s c.args.at) _ operator (sym c.is_fallback.ensures ∙ c.if-is_fallback.false)
