-- `canonical_date::canonical::weeks_read` meets its contract: its fields, parts of 56 bits; or field by field.
use mathlib.Core.Path.{sym}
use Rattle.canonical_date.proofs.canonical.weeks_read.Goals as goal

pub returns-then-lawful_weeks : goal.returns-then-lawful_weeks
returns-then-lawful_weeks c = rw (c.part.ensures, c.part-then-lawful_weeks.ensures, c.part-then-lawful_weeks-2.ensures) (sym (c.lawful_weeks.ensures c.if-lawful_weeks.true _ _ c.wide_at-bits.ensures))
