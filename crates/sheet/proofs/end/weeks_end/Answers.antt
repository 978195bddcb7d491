-- `sheet::end::weeks_end` meets its contract.
use mathlib.Core.Path.{sym, ap}
use Rattle.sheet.specs.End.{ends}
use Rattle.sheet.proofs.end.weeks_end.Goals as goal

pub returns-then-lawful_weeks : goal.returns-then-lawful_weeks
returns-then-lawful_weeks c = sym (ap ends (c.lawful_weeks.ensures c.if-lawful_weeks.true _ _ c.wide_at.ensures))
