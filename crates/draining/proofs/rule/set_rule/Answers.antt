-- `draining::rule::set_rule` meets its contract: the title that is read is the rule's.
use mathlib.Core.Path.{refl, sym}
use native.Mathlib.Omega.{arith}
use Rattle.forms.proofs.Numbers.{narrow}
use Rattle.field.proofs.Bytes.{known_bytes}
use Rattle.sheet.proofs.Titles.{title-refused}
use Rattle.draining.proofs.RuleReturns.{set-fallback, set-rule, comment-low}
use Rattle.draining.proofs.rule.set_rule.Goals as goal

pub returns-in_default : goal.returns-in_default
returns-in_default c = title-refused _ _ _ c.requires.readable _ _ (sym c.in_default.ensures)

pub returns-then-is_fallback : goal.returns-then-is_fallback
returns-then-is_fallback c =
    let title = c.in-Ok.title in
    set-fallback _ _ _ c.requires.readable title.operator title.kind title.comment _ _ _ (sym c.in-Ok.ensures) _ _ _ _
    c.is_fallback.ensures c.if-is_fallback.true

pub state_number-requires : goal.state_number-requires
state_number-requires c =
    let s = c.args.sheet.now in
    comment-low _ (narrow c.args.form) s (known_bytes s (λ j. omega (arith, c.type_inv.sheet j))) _ c.requires.readable _ _ _ _
    (sym c.in-Ok.ensures)

pub returns : goal.returns
returns c =
    let title = c.in-Ok.title in
    set-rule _ _ _ c.requires.readable title.operator title.kind title.comment _ _ _ (sym c.in-Ok.ensures) _ _ _ _
    c.is_fallback.ensures _ _ _ c.if-is_fallback.false
    c.state_number.ensures refl c.replace_number.ensures
