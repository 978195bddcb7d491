-- `writer::copy_bytes` meets its contract. The loop's invariant: storing the bits still ahead leaves what storing them all leaves.
use mathlib.Core.Path.{◌≡◌}
use Prim.Native.Nat.{◌+◌, ◌*◌}
use lib.ListN.{take, drop}
use lib.Seq.{sets}
use Rattle.definition.specs.Field.{sheet_bits}
use Rattle.writer.proofs.Copying.{still}
use Rattle.writer.proofs.copy_bytes.Given as goal

abbrev pub invariant-loop-done : goal.invariant-loop-done
invariant-loop-done l = sets (sheet_bits l.out) (8 * l.first + 8 * l.done) (still (sheet_bits l.sheet) l.from (8 * l.count) (8 * l.first) (8 * l.done))
    ≡ sets (sheet_bits l.initial.out) (8 * l.first) (take (8 * l.count) (drop l.from (sheet_bits l.sheet)))
