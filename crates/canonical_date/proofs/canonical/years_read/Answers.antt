-- `canonical_date::canonical::years_read` meets its contract: its fields, parts of 56 bits; or field by field.
use mathlib.Core.Path.{sym}
use Rattle.canonical_date.proofs.canonical.years_read.Goals as goal

pub returns-then-lawful_years : goal.returns-then-lawful_years
returns-then-lawful_years c = rw (c.part.ensures, c.part-then-lawful_years.ensures, c.part-then-lawful_years-2.ensures) (sym (c.lawful_years.ensures c.if-lawful_years.true _ _ c.wide_at-bits.ensures))
