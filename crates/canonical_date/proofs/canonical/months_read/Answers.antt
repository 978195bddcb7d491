-- `canonical_date::canonical::months_read` meets its contract: its fields, parts of 56 bits; or field by field.
use mathlib.Core.Path.{sym}
use Rattle.canonical_date.proofs.canonical.months_read.Goals as goal

pub returns-then-lawful_months : goal.returns-then-lawful_months
returns-then-lawful_months c = rw (c.part.ensures, c.part-then-lawful_months.ensures) (sym (c.lawful_months.ensures c.if-lawful_months.true _ _ c.wide_at-bits.ensures))
