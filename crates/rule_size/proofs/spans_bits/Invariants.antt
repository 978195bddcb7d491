use mathlib.Core.Path.{◌≡◌}
use mathlib.Core.List.{map, flat_map}
use Prim.Native.Nat.{◌+◌, ◌*◌, ◌≤◌}
use lib.ListN.{length, drop}
use Rattle.definition.specs.Sheet.{span}
use Rattle.codes.specs.Number.{span_at}
use Rattle.rule_size.proofs.spans_bits.Given as goal

abbrev pub invariant-loop-span : goal.invariant-loop-span
invariant-loop-span l = record {
  size : length (flat_map span.write (map span_at l.spans)) ≡ l.bits + length (flat_map span.write (map span_at (drop l.span-index l.spans)));
  low : l.bits ≤ 52 * l.span-index;
}
