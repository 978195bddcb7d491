-- `item::day::months_at` meets its contract: two fields, one behind the other.
use mathlib.Core.Path.{sym}
use native.Mathlib.Omega.{arith}
use Rattle.definition.proofs.Reading.{field_end, then-goes, then-stops, then-stops-later, via-goes, via-stops}
use Rattle.answers.proofs.Passing.{passed_on}
use Rattle.item.proofs.day.months_at.Goals as goal

pub month_at-requires-2 : goal.month_at-requires-2
month_at-requires-2 c = omega (arith, field_end _ _ _ _ _ _ _ (sym c.in_ok-start.ensures))

pub returns-in_err-start : goal.returns-in_err-start
returns-in_err-start c = passed_on _ _ _ _ c.from_residual.ensures.1 (via-stops _ _ _ _ _ (then-stops _ _ _ _ (sym c.in_err-start.ensures)))

pub returns-in_err-end : goal.returns-in_err-end
returns-in_err-end c =
    passed_on _ _ _ _ c.from_residual-in_err-end.ensures.1 (via-stops _ _ _ _ _
    (then-stops-later _ _ _ _ (sym c.in_ok-start.ensures) (sym c.in_err-end.ensures)))

pub returns : goal.returns
returns c = sym (via-goes _ _ _ _ _ (then-goes _ _ _ _ (sym c.in_ok-start.ensures) (sym c.in_ok-end.ensures)))
