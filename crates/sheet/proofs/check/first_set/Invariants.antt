-- `sheet::check::first_set` meets its contract. The loop's invariant: every bit passed is zero, so that the first set one is still ahead.
use mathlib.Core.Path.{◌≡◌}
use Rattle.definition.specs.Field.{sheet_bits}
use Rattle.sheet.proofs.Endings.{set_from}
use Rattle.sheet.proofs.check.first_set.Given as goal

abbrev pub invariant-loop-at : goal.invariant-loop-at
invariant-loop-at l = set_from (sheet_bits l.sheet) l.start l.end ≡ set_from (sheet_bits l.sheet) l.at l.end
