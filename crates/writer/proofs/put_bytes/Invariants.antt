-- `writer::put_bytes` meets its contract. The loop's invariant: storing the rest of the number before the bytes already stored leaves
-- what storing it whole leaves.
use mathlib.Core.Path.{◌≡◌}
use Prim.Native.Nat.{◌-◌, ◌*◌, ◌^◌, ◌<◌}
use lib.Seq.{sets}
use Rattle.definition.specs.Field.{bits, sheet_bits}
use Rattle.writer.proofs.put_bytes.Given as goal

abbrev pub invariant-loop-index : goal.invariant-loop-index
invariant-loop-index l = record {
  fits : l.rest < 2 ^ (8 * (l.index - l.first));
  stored : sets (sheet_bits l.out) (8 * l.first) (bits (8 * (l.index - l.first)) l.rest) ≡ sets (sheet_bits l.initial.out) (8 * l.first) (bits (8 * (l.past - l.first)) l.number);
}
