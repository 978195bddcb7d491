-- `canonical_date::canonical::weekdays_read` meets its contract: its fields, parts of 56 bits; or field by field.
use mathlib.Core.Path.{sym}
use Rattle.canonical_date.proofs.canonical.weekdays_read.Goals as goal

pub returns-then-lawful_weekdays : goal.returns-then-lawful_weekdays
returns-then-lawful_weekdays c = rw (c.part.ensures, c.part-then-lawful_weekdays.ensures, c.part-then-lawful_weekdays-2.ensures, c.part-then-lawful_weekdays-3.ensures, c.part-then-lawful_weekdays-4.ensures) (sym (c.lawful_weekdays.ensures c.if-lawful_weekdays.true _ _ c.wide_at-bits.ensures))
