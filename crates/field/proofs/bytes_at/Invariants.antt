-- `field::bytes_at` meets its contract. The loop's invariant: `number` is that of the bytes taken so far.
use mathlib.Core.Path.{◌≡◌}
use Prim.Native.Nat.{◌*◌}
use Rattle.definition.specs.Field.{sheet_bits, field_at}
use Rattle.field.proofs.bytes_at.Given as goal

abbrev pub invariant-loop-byte : goal.invariant-loop-byte
invariant-loop-byte l = l.number ≡ field_at (sheet_bits l.sheet) (8 * l.first) (8 * l.byte-index)
