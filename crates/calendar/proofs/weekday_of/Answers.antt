-- `calendar::weekday_of` meets its contract: a year has at most 366 days, so nothing wraps.
use native.Mathlib.Omega.{arith}
use Rattle.definition.specs.Date.{weekday_from, weekday_at}
use Rattle.calendar.proofs.Days.{year-long}
use Rattle.calendar.proofs.weekday_of.Goals as goal

pub overflow_add-result : goal.overflow_add-result
overflow_add-result c =
    omega (arith, year-long c.args.year)

pub returns : goal.returns
unfolding weekday_at weekday_from
returns c = rw (c.from.ensures, c.new_year.ensures)
