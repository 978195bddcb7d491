-- `sheet::end::monthdays_end` meets its contract.
use mathlib.Core.Path.{sym, ap}
use Rattle.sheet.specs.End.{ends}
use Rattle.sheet.proofs.end.monthdays_end.Goals as goal

pub returns-then-lawful_months : goal.returns-then-lawful_months
returns-then-lawful_months c = sym (ap ends (c.lawful_months.ensures c.if-lawful_months.true _ _ c.wide_at-bits.ensures))

pub returns-then-is_dated : goal.returns-then-is_dated
returns-then-is_dated c = sym (ap ends (c.is_dated.ensures c.if-is_dated.true _ _ c.wide_at-bits.ensures))
