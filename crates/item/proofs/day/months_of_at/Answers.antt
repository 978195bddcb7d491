-- `item::day::months_of_at` meets its contract: three fields, one behind the other.
use mathlib.Core.Path.{sym}
use native.Mathlib.Omega.{arith}
use Rattle.definition.proofs.Reading.{field_end, then-goes, then-stops, then-stops-later, via-goes, via-stops}
use Rattle.answers.proofs.Passing.{passed_on}
use Rattle.item.proofs.day.months_of_at.Goals as goal

pub month_at-requires-2 : goal.month_at-requires-2
month_at-requires-2 c = omega (arith, field_end _ _ _ _ _ _ _ (sym c.in_ok-start.ensures))

pub year_at-requires : goal.year_at-requires
year_at-requires c = omega (
  arith,
  field_end _ _ _ _ _ _ _ (sym c.in_ok-start.ensures),
  field_end _ _ _ _ _ _ _ (sym c.in_ok-end.ensures),
)

pub returns-in_err-start : goal.returns-in_err-start
returns-in_err-start c = passed_on _ _ _ _ c.from_residual.ensures.1 (via-stops _ _ _ _ _ (then-stops _ _ _ _ (sym c.in_err-start.ensures)))

pub returns-in_err-end : goal.returns-in_err-end
returns-in_err-end c =
    passed_on _ _ _ _ c.from_residual-in_err-end.ensures.1 (via-stops _ _ _ _ _ (then-stops-later _ _ _ _ (sym c.in_ok-start.ensures)
    (then-stops _ _ _ _ (sym c.in_err-end.ensures))))

pub returns-in_err-year : goal.returns-in_err-year
returns-in_err-year c =
    passed_on _ _ _ _ c.from_residual-in_err-year.ensures.1 (via-stops _ _ _ _ _ (then-stops-later _ _ _ _ (sym c.in_ok-start.ensures)
    (then-stops-later _ _ _ _ (sym c.in_ok-end.ensures) (sym c.in_err-year.ensures))))

pub returns : goal.returns
returns c =
    sym (via-goes _ _ _ _ _ (then-goes _ _ _ _ (sym c.in_ok-start.ensures) (then-goes _ _ _ _ (sym c.in_ok-end.ensures) (sym c.in_ok-year.ensures))))
