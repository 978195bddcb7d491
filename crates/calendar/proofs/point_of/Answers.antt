-- `calendar::point_of` meets its contract: one lemma for each of its returns, none or a date.
use mathlib.Core.Path.{sym, ◌∙◌}
use native.Mathlib.Omega.{arith}
use Rattle.calendar.proofs.Date.{date-year, date-month, day-in-year, point-some, point-none}
use Rattle.calendar.proofs.point_of.Goals as goal

pub returns-then-not-is_date : goal.returns-then-not-is_date
returns-then-not-is_date c =
    point-none _ _ _ (sym c.is_date.ensures ∙ c.if-not-is_date.true)

pub day_of_year-passed-requires : goal.day_of_year-passed-requires
day_of_year-passed-requires c =
    sym c.is_date.ensures ∙ c.if-not-is_date.false

pub weekday_of-weekday-requires : goal.weekday_of-weekday-requires
weekday_of-weekday-requires c =
    let dated = sym c.is_date.ensures ∙ c.if-not-is_date.false in
    ((date-year _ _ _ dated).0, rw c.day_of_year-passed.ensures (day-in-year _ _ _ dated))

pub week_of-requires : goal.week_of-requires
week_of-requires c =
    let dated = sym c.is_date.ensures ∙ c.if-not-is_date.false in
    ((date-year _ _ _ dated).0, rw c.day_of_year-passed.ensures (day-in-year _ _ _ dated), c.weekday_of-weekday.ensures)

pub overflow_cast-result : goal.overflow_cast-result
overflow_cast-result c =
    omega (arith, date-month _ _ _ (sym c.is_date.ensures ∙ c.if-not-is_date.false))

pub overflow_cast-result-2 : goal.overflow_cast-result-2
overflow_cast-result-2 c =
    omega (arith, date-year _ _ _ (sym c.is_date.ensures ∙ c.if-not-is_date.false))

pub returns : goal.returns
returns c =
    point-some _ _ _ _ _ _ (sym c.is_date.ensures ∙ c.if-not-is_date.false) c.day_of_year-passed.ensures c.weekday_of-weekday.ensures
    c.week_of.ensures
