-- `calendar::is_date` meets its contract: the code's tests are those of `is_date`, the year's first, then the month's, then the day's.
use Rattle.std.proofs.Common.{arith}
use Rattle.std.proofs.lemmas.Grind.{common_steps}
use Rattle.definition.specs.Date.{is_date, month_length}
use Rattle.calendar.proofs.is_date.Goals as goal

pub returns-then-day-ge1 : goal.returns-then-day-ge1
unfolding is_date month_length
returns-then-day-ge1 c = grind (arith, common_steps, c.is_leap.ensures, c.month_length.ensures, c.from.ensures)

pub returns-else-day-ge1 : goal.returns-else-day-ge1
unfolding is_date month_length
returns-else-day-ge1 c = grind (arith, common_steps)
