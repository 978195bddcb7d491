-- `sheet::end::weekdays_end` meets its contract.
use mathlib.Core.Path.{sym, ap}
use Rattle.sheet.specs.End.{ends}
use Rattle.sheet.proofs.end.weekdays_end.Goals as goal

pub returns-then-lawful_weekdays : goal.returns-then-lawful_weekdays
returns-then-lawful_weekdays c = sym (ap ends (c.lawful_weekdays.ensures c.if-lawful_weekdays.true _ _ c.wide_at-bits.ensures))

pub returns-then-is_holiday : goal.returns-then-is_holiday
returns-then-is_holiday c = sym (ap ends (c.is_holiday.ensures c.if-is_holiday.true _ _ c.wide_at-bits.ensures))
