-- `item::day::fixed_days_at` meets its contract: five fields, one behind the other.
use mathlib.Core.Path.{sym}
use native.Mathlib.Omega.{arith}
use Rattle.definition.proofs.Reading.{field_end, then-goes, then-stops, then-stops-later, via-goes, via-stops}
use Rattle.answers.proofs.Passing.{passed_on}
use Rattle.item.proofs.day.fixed_days_at.Goals as goal

pub weekday_at-requires-2 : goal.weekday_at-requires-2
weekday_at-requires-2 c = omega (arith, field_end _ _ _ _ _ _ _ (sym c.in_ok-start.ensures))

pub take_at-requires : goal.take_at-requires
take_at-requires c = (
  omega arith,
  omega (
    arith,
    field_end _ _ _ _ _ _ _ (sym c.in_ok-start.ensures),
    field_end _ _ _ _ _ _ _ (sym c.in_ok-end.ensures),
  ),
)

pub take_at-requires-2 : goal.take_at-requires-2
take_at-requires-2 c = (
  omega arith,
  omega (
    arith,
    field_end _ _ _ _ _ _ _ (sym c.in_ok-start.ensures),
    field_end _ _ _ _ _ _ _ (sym c.in_ok-end.ensures),
    field_end _ _ _ _ _ _ _ (sym c.in_ok-offset.ensures),
  ),
)

pub take_at-requires-3 : goal.take_at-requires-3
take_at-requires-3 c = (
  omega arith,
  omega (
    arith,
    field_end _ _ _ _ _ _ _ (sym c.in_ok-start.ensures),
    field_end _ _ _ _ _ _ _ (sym c.in_ok-end.ensures),
    field_end _ _ _ _ _ _ _ (sym c.in_ok-offset.ensures),
    field_end _ _ _ _ _ _ _ (sym c.in_ok-from_start.ensures),
  ),
)

pub returns-in_err-start : goal.returns-in_err-start
returns-in_err-start c = passed_on _ _ _ _ c.from_residual.ensures.1 (via-stops _ _ _ _ _ (then-stops _ _ _ _ (sym c.in_err-start.ensures)))

pub returns-in_err-end : goal.returns-in_err-end
returns-in_err-end c =
    passed_on _ _ _ _ c.from_residual-in_err-end.ensures.1 (via-stops _ _ _ _ _ (then-stops-later _ _ _ _ (sym c.in_ok-start.ensures)
    (then-stops _ _ _ _ (sym c.in_err-end.ensures))))

pub returns-in_err-offset : goal.returns-in_err-offset
returns-in_err-offset c =
    passed_on _ _ _ _ c.from_residual-in_err-offset.ensures.1 (via-stops _ _ _ _ _ (then-stops-later _ _ _ _ (sym c.in_ok-start.ensures)
    (then-stops-later _ _ _ _ (sym c.in_ok-end.ensures) (then-stops _ _ _ _ (sym c.in_err-offset.ensures)))))

pub returns-in_err-from_start : goal.returns-in_err-from_start
returns-in_err-from_start c =
    passed_on _ _ _ _ c.from_residual-in_err-from_start.ensures.1 (via-stops _ _ _ _ _ (then-stops-later _ _ _ _ (sym c.in_ok-start.ensures)
    (then-stops-later _ _ _ _ (sym c.in_ok-end.ensures) (then-stops-later _ _ _ _ (sym c.in_ok-offset.ensures)
    (then-stops _ _ _ _ (sym c.in_err-from_start.ensures))))))

pub returns-in_err-from_end : goal.returns-in_err-from_end
returns-in_err-from_end c =
    passed_on _ _ _ _ c.from_residual-in_err-from_end.ensures.1 (via-stops _ _ _ _ _ (then-stops-later _ _ _ _ (sym c.in_ok-start.ensures)
    (then-stops-later _ _ _ _ (sym c.in_ok-end.ensures) (then-stops-later _ _ _ _ (sym c.in_ok-offset.ensures)
    (then-stops-later _ _ _ _ (sym c.in_ok-from_start.ensures) (sym c.in_err-from_end.ensures))))))

pub returns : goal.returns
returns c =
    sym (via-goes _ _ _ _ _ (then-goes _ _ _ _ (sym c.in_ok-start.ensures) (then-goes _ _ _ _ (sym c.in_ok-end.ensures)
    (then-goes _ _ _ _ (sym c.in_ok-offset.ensures) (then-goes _ _ _ _ (sym c.in_ok-from_start.ensures) (sym c.in_ok-from_end.ensures))))))
