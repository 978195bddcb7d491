-- `sheet::rule::counts_at` meets its contract: five fields, one behind the other.
use mathlib.Core.Path.{sym}
use native.Mathlib.Omega.{arith}
use Rattle.definition.specs.Sheet.{counts}
use Rattle.definition.proofs.Reading.{field_end, then-goes, then-stops, then-stops-later}
use Rattle.forms.proofs.Numbers.{narrow}
use Rattle.answers.proofs.Passing.{passed_on}
use Rattle.sheet.proofs.rule.counts_at.Goals as goal

pub count_at-requires-2 : goal.count_at-requires-2
count_at-requires-2 c =
    omega (
      arith,
      (narrow c.args.form).head-narrow,
      field_end _ _ _ _ _ _ _ (sym c.in_ok-years.ensures),
    )

pub count_at-requires-3 : goal.count_at-requires-3
count_at-requires-3 c =
    omega (
      arith,
      (narrow c.args.form).head-narrow,
      field_end _ _ _ _ _ _ _ (sym c.in_ok-years.ensures),
      field_end _ _ _ _ _ _ _ (sym c.in_ok-monthdays.ensures),
    )

pub count_at-requires-4 : goal.count_at-requires-4
count_at-requires-4 c =
    omega (
      arith,
      (narrow c.args.form).head-narrow,
      field_end _ _ _ _ _ _ _ (sym c.in_ok-years.ensures),
      field_end _ _ _ _ _ _ _ (sym c.in_ok-monthdays.ensures),
      field_end _ _ _ _ _ _ _ (sym c.in_ok-weeks.ensures),
    )

pub count_at-requires-5 : goal.count_at-requires-5
count_at-requires-5 c =
    omega (
      arith,
      (narrow c.args.form).head-narrow,
      field_end _ _ _ _ _ _ _ (sym c.in_ok-years.ensures),
      field_end _ _ _ _ _ _ _ (sym c.in_ok-monthdays.ensures),
      field_end _ _ _ _ _ _ _ (sym c.in_ok-weeks.ensures),
      field_end _ _ _ _ _ _ _ (sym c.in_ok-weekdays.ensures),
    )

pub returns-in_err-years : goal.returns-in_err-years
unfolding counts
returns-in_err-years c =
    passed_on _ _ _ _ c.from_residual.ensures.1 (then-stops _ _ _ _ (sym c.in_err-years.ensures))

pub returns-in_err-monthdays : goal.returns-in_err-monthdays
unfolding counts
returns-in_err-monthdays c =
    passed_on _ _ _ _ c.from_residual-in_err-monthdays.ensures.1 (then-stops-later _ _ _ _ (sym c.in_ok-years.ensures)
    (then-stops _ _ _ _ (sym c.in_err-monthdays.ensures)))

pub returns-in_err-weeks : goal.returns-in_err-weeks
unfolding counts
returns-in_err-weeks c =
    passed_on _ _ _ _ c.from_residual-in_err-weeks.ensures.1 (then-stops-later _ _ _ _ (sym c.in_ok-years.ensures)
    (then-stops-later _ _ _ _ (sym c.in_ok-monthdays.ensures)
    (then-stops _ _ _ _ (sym c.in_err-weeks.ensures))))

pub returns-in_err-weekdays : goal.returns-in_err-weekdays
unfolding counts
returns-in_err-weekdays c =
    passed_on _ _ _ _ c.from_residual-in_err-weekdays.ensures.1 (then-stops-later _ _ _ _ (sym c.in_ok-years.ensures)
    (then-stops-later _ _ _ _ (sym c.in_ok-monthdays.ensures)
    (then-stops-later _ _ _ _ (sym c.in_ok-weeks.ensures)
    (then-stops _ _ _ _ (sym c.in_err-weekdays.ensures)))))

pub returns-in_err-spans : goal.returns-in_err-spans
unfolding counts
returns-in_err-spans c =
    passed_on _ _ _ _ c.from_residual-in_err-spans.ensures.1 (then-stops-later _ _ _ _ (sym c.in_ok-years.ensures)
    (then-stops-later _ _ _ _ (sym c.in_ok-monthdays.ensures)
    (then-stops-later _ _ _ _ (sym c.in_ok-weeks.ensures)
    (then-stops-later _ _ _ _ (sym c.in_ok-weekdays.ensures)
    (sym c.in_err-spans.ensures)))))

pub returns : goal.returns
unfolding counts
returns c = sym (then-goes _ _ _ _ (sym c.in_ok-years.ensures)
    (then-goes _ _ _ _ (sym c.in_ok-monthdays.ensures)
    (then-goes _ _ _ _ (sym c.in_ok-weeks.ensures)
    (then-goes _ _ _ _ (sym c.in_ok-weekdays.ensures)
    (sym c.in_ok-spans.ensures)))))
