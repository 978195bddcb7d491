-- `sheet::rule::title_at` meets its contract: three fields, one behind the other.
use mathlib.Core.Path.{sym}
use native.Mathlib.Omega.{arith}
use Rattle.definition.specs.Sheet.{title}
use Rattle.definition.proofs.Reading.{field_end, then-goes, then-stops, then-stops-later, via-goes, via-stops}
use Rattle.answers.proofs.Passing.{passed_on}
use Rattle.sheet.proofs.rule.title_at.Goals as goal

pub choice_at-requires-2 : goal.choice_at-requires-2
choice_at-requires-2 c = omega (arith, field_end _ _ _ _ _ _ _ (sym c.in_ok-operator.ensures))

pub comment_at-requires : goal.comment_at-requires
comment_at-requires c =
    omega (arith, field_end _ _ _ _ _ _ _ (sym c.in_ok-operator.ensures), field_end _ _ _ _ _ _ _ (sym c.in_ok-kind.ensures))

pub returns-in_err-operator : goal.returns-in_err-operator
unfolding title
returns-in_err-operator c =
    passed_on _ _ _ _ c.from_residual.ensures.1 (then-stops _ _ _ _ (via-stops _ _ _ _ _ (sym c.in_err-operator.ensures)))

pub returns-in_err-kind : goal.returns-in_err-kind
unfolding title
returns-in_err-kind c =
    passed_on _ _ _ _ c.from_residual-in_err-kind.ensures.1 (then-stops-later _ _ _ _ (via-goes _ _ _ _ _ (sym c.in_ok-operator.ensures))
    (then-stops _ _ _ _ (via-stops _ _ _ _ _ (sym c.in_err-kind.ensures))))

pub returns-in_err-comment : goal.returns-in_err-comment
unfolding title
returns-in_err-comment c =
    passed_on _ _ _ _ c.from_residual-in_err-comment.ensures.1 (then-stops-later _ _ _ _ (via-goes _ _ _ _ _ (sym c.in_ok-operator.ensures))
    (then-stops-later _ _ _ _ (via-goes _ _ _ _ _ (sym c.in_ok-kind.ensures)) (sym c.in_err-comment.ensures)))

pub returns : goal.returns
unfolding title
returns c =
    sym (then-goes _ _ _ _ (via-goes _ _ _ _ _ (sym c.in_ok-operator.ensures))
    (then-goes _ _ _ _ (via-goes _ _ _ _ _ (sym c.in_ok-kind.ensures)) (sym c.in_ok-comment.ensures)))
