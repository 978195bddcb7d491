-- `writer::copy_fields` meets its contract, 32 bits at a time. The loop's invariant: storing the bits still ahead leaves what storing them
-- all leaves.
-- a field of so many bits fits in them
use mathlib.Core.Path.{◌≡◌}
use Prim.Native.Nat.{◌+◌, ◌-◌, ◌≤◌}
use lib.ListN.{length, take, drop}
use lib.Seq.{sets}
use Rattle.definition.specs.Field.{sheet_bits}
use Rattle.writer.proofs.Copying.{still}
use Rattle.writer.proofs.copy_fields.Given as goal

abbrev pub invariant-loop-done : goal.invariant-loop-done
invariant-loop-done l = (l.done ≤ l.count) × (length l.out ≡ length l.initial.out)
    × (sets (sheet_bits l.out) (l.at + l.done) (still (sheet_bits l.sheet) l.from l.count l.at l.done) ≡ sets (sheet_bits l.initial.out) l.at (take l.count (drop l.from (sheet_bits l.sheet))))

abbrev pub decreases-loop-done : goal.decreases-loop-done
decreases-loop-done l = l.count - l.done
