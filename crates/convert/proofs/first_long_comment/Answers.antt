-- `convert::first_long_comment` meets its contract.
use mathlib.Core.Path.{◌≡◌, sym, ◌∙◌, subst}
use native.Mathlib.Omega.{arith}
use Rattle.definition.specs.Field.{sheet_bits}
use Rattle.forms.specs.Form.{as_form}
use Rattle.convert.proofs.Comments.{NoneBefore, none-next, long-found, long-none}
use Rattle.convert.proofs.first_long_comment.Goals as goal

pub loop-rule-init : goal.loop-rule-init
loop-rule-init c = λ j l. absurd (omega arith)

pub has_long_comment-requires : goal.has_long_comment-requires
has_long_comment-requires c = c.requires.0 _ (omega arith)

pub returns-then-has_long_comment : goal.returns-then-has_long_comment
returns-then-has_long_comment c =
    long-found _ _ _ _ _ _ (omega arith) (sym c.has_long_comment.ensures ∙ c.if-has_long_comment.true) c.loop-rule.invariant

pub loop-rule-preserved : goal.loop-rule-preserved
loop-rule-preserved c =
    let a = c.args in
    none-next (as_form a.form) (as_form a.to) (sheet_bits a.sheet.now) a.begins.now _ c.loop-rule.invariant (sym c.has_long_comment.ensures ∙ c.if-has_long_comment.false)

pub returns : goal.returns
returns c =
    let a = c.args in
    let end : c.loop-rule.rule ≡ a.count = omega arith in
    long-none _ _ _ _ _ (subst (NoneBefore (as_form a.form) (as_form a.to) (sheet_bits a.sheet.now) a.begins.now) end c.loop-rule.invariant)
