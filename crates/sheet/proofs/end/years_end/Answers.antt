-- `sheet::end::years_end` meets its contract.
use mathlib.Core.Path.{sym, ap}
use Rattle.sheet.specs.End.{ends}
use Rattle.sheet.proofs.end.years_end.Goals as goal

pub returns-then-lawful_years : goal.returns-then-lawful_years
returns-then-lawful_years c = sym (ap ends (c.lawful_years.ensures c.if-lawful_years.true _ _ c.wide_at.ensures))
