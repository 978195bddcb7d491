-- `sheet::end::item_end` meets its contract: the layout of each sort.
use Rattle.item.specs.Sort.{of_sort}
use Rattle.sheet.proofs.end.item_end.Goals as goal

pub returns-in-Years : goal.returns-in-Years
unfolding of_sort
returns-in-Years c = rw c.in-Years.is c.years_end.ensures

pub returns-in-Monthdays : goal.returns-in-Monthdays
unfolding of_sort
returns-in-Monthdays c = rw c.in-Monthdays.is c.monthdays_end.ensures

pub returns-in-Weeks : goal.returns-in-Weeks
unfolding of_sort
returns-in-Weeks c = rw c.in-Weeks.is c.weeks_end.ensures

pub returns-in-Weekdays : goal.returns-in-Weekdays
unfolding of_sort
returns-in-Weekdays c = rw c.in-Weekdays.is c.weekdays_end.ensures

pub returns-in-Spans : goal.returns-in-Spans
unfolding of_sort
returns-in-Spans c = rw c.in-Spans.is c.spans_end.ensures
