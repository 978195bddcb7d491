-- `item::day::steps_at` meets its contract: three fields, one behind the other.
use mathlib.Core.Path.{sym}
use native.Mathlib.Omega.{arith}
use Rattle.definition.proofs.Reading.{field_end, then-goes, then-stops, then-stops-later}
use Rattle.answers.proofs.Passing.{passed_on}
use Rattle.item.proofs.day.steps_at.Goals as goal

pub within_at-requires-2 : goal.within_at-requires-2
within_at-requires-2 c = (omega arith, omega (arith, field_end _ _ _ _ _ _ _ (sym c.in_ok-start.ensures)))

pub step_at-requires : goal.step_at-requires
step_at-requires c = (
  omega arith,
  omega (
    arith,
    field_end _ _ _ _ _ _ _ (sym c.in_ok-start.ensures),
    field_end _ _ _ _ _ _ _ (sym c.in_ok-end.ensures),
  ),
)

pub returns-in_err-start : goal.returns-in_err-start
returns-in_err-start c = passed_on _ _ _ _ c.from_residual.ensures.1 (then-stops _ _ _ _ (sym c.in_err-start.ensures))

pub returns-in_err-end : goal.returns-in_err-end
returns-in_err-end c =
    passed_on _ _ _ _ c.from_residual-in_err-end.ensures.1 (then-stops-later _ _ _ _ (sym c.in_ok-start.ensures)
    (then-stops _ _ _ _ (sym c.in_err-end.ensures)))

pub returns-in_err-step : goal.returns-in_err-step
returns-in_err-step c =
    passed_on _ _ _ _ c.from_residual-in_err-step.ensures.1 (then-stops-later _ _ _ _ (sym c.in_ok-start.ensures)
    (then-stops-later _ _ _ _ (sym c.in_ok-end.ensures) (sym c.in_err-step.ensures)))

pub returns : goal.returns
returns c = sym (then-goes _ _ _ _ (sym c.in_ok-start.ensures) (then-goes _ _ _ _ (sym c.in_ok-end.ensures) (sym c.in_ok-step.ensures)))
