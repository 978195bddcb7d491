-- `sheet::rule::body_end` meets its contract: five rows of items, one behind the other.
use mathlib.Core.Path.{sym, ◌∙◌}
use native.Mathlib.Omega.{arith}
use Rattle.definition.specs.Sheet.{body}
use Rattle.sheet.specs.End.{as_step}
use Rattle.sheet.proofs.Rows.{years-row, monthdays-row, weeks-row, weekdays-row, spans-row, row-short, ends-goes, ends-stops}
use Rattle.sheet.proofs.Ends.{fails_on}
use Rattle.sheet.proofs.rule.body_end.Goals as goal

pub row_end-requires-2 : goal.row_end-requires-2
row_end-requires-2 c =
    omega (
      arith,
      row-short _ _ _ _ _ (sym c.in_ok-after_years.ensures),
    )

pub row_end-requires-3 : goal.row_end-requires-3
row_end-requires-3 c =
    omega (
      arith,
      row-short _ _ _ _ _ (sym c.in_ok-after_years.ensures),
      row-short _ _ _ _ _ (sym c.in_ok-after_monthdays.ensures),
    )

pub row_end-requires-4 : goal.row_end-requires-4
row_end-requires-4 c =
    omega (
      arith,
      row-short _ _ _ _ _ (sym c.in_ok-after_years.ensures),
      row-short _ _ _ _ _ (sym c.in_ok-after_monthdays.ensures),
      row-short _ _ _ _ _ (sym c.in_ok-after_weeks.ensures),
    )

pub row_end-requires-5 : goal.row_end-requires-5
row_end-requires-5 c =
    omega (
      arith,
      row-short _ _ _ _ _ (sym c.in_ok-after_years.ensures),
      row-short _ _ _ _ _ (sym c.in_ok-after_monthdays.ensures),
      row-short _ _ _ _ _ (sym c.in_ok-after_weeks.ensures),
      row-short _ _ _ _ _ (sym c.in_ok-after_weekdays.ensures),
    )

pub returns-in_err-after_years : goal.returns-in_err-after_years
unfolding body
returns-in_err-after_years c =
    fails_on as_step _ _ _ c.from_residual.ensures.1 (ends-stops _ _ _ _ _ _ (years-row _ _ _ ∙ sym c.in_err-after_years.ensures))

pub returns-in_err-after_monthdays : goal.returns-in_err-after_monthdays
unfolding body
returns-in_err-after_monthdays c =
    fails_on as_step _ _ _ c.from_residual-in_err-after_monthdays.ensures.1 (ends-goes _ _ _ _ _ (years-row _ _ _ ∙ sym c.in_ok-after_years.ensures)
    ∙ (ends-stops _ _ _ _ _ _ (monthdays-row _ _ _ ∙ sym c.in_err-after_monthdays.ensures)))

pub returns-in_err-after_weeks : goal.returns-in_err-after_weeks
unfolding body
returns-in_err-after_weeks c =
    fails_on as_step _ _ _ c.from_residual-in_err-after_weeks.ensures.1 (ends-goes _ _ _ _ _ (years-row _ _ _ ∙ sym c.in_ok-after_years.ensures)
    ∙ (ends-goes _ _ _ _ _ (monthdays-row _ _ _ ∙ sym c.in_ok-after_monthdays.ensures)
    ∙ (ends-stops _ _ _ _ _ _ (weeks-row _ _ _ ∙ sym c.in_err-after_weeks.ensures))))

pub returns-in_err-after_weekdays : goal.returns-in_err-after_weekdays
unfolding body
returns-in_err-after_weekdays c =
    fails_on as_step _ _ _ c.from_residual-in_err-after_weekdays.ensures.1 (ends-goes _ _ _ _ _ (years-row _ _ _ ∙ sym c.in_ok-after_years.ensures)
    ∙ (ends-goes _ _ _ _ _ (monthdays-row _ _ _ ∙ sym c.in_ok-after_monthdays.ensures)
    ∙ (ends-goes _ _ _ _ _ (weeks-row _ _ _ ∙ sym c.in_ok-after_weeks.ensures)
    ∙ (ends-stops _ _ _ _ _ _ (weekdays-row _ _ _ ∙ sym c.in_err-after_weekdays.ensures)))))

pub returns : goal.returns
unfolding body
returns c = c.row_end-5.ensures ∙ sym (ends-goes _ _ _ _ _ (years-row _ _ _ ∙ sym c.in_ok-after_years.ensures)
    ∙ (ends-goes _ _ _ _ _ (monthdays-row _ _ _ ∙ sym c.in_ok-after_monthdays.ensures)
    ∙ (ends-goes _ _ _ _ _ (weeks-row _ _ _ ∙ sym c.in_ok-after_weeks.ensures)
    ∙ (ends-goes _ _ _ _ _ (weekdays-row _ _ _ ∙ sym c.in_ok-after_weekdays.ensures)
    ∙ (spans-row _ _ _)))))
