use mathlib.Core.Path.{◌≡◌}
use mathlib.Core.List.{List}
use Prim.Native.Nat.{ℕ, ◌+◌, ◌*◌, ◌≤◌}
use lib.ListN.{length}
use Rattle.rule_writer.specs.Rows.{rows_bits}
use Rattle.tables.specs.Items.{row_place}
use Rattle.rule_size.proofs.rows_bits.Given as goal

abbrev pub invariant-loop-sort : goal.invariant-loop-sort
invariant-loop-sort l = record {
  rows : (ends : List ℕ) → row_place l.item_counts 4 ≤ length ends → length (rows_bits ends l.item_counts 0) ≡ l.bits + length (rows_bits ends l.item_counts l.sort);
  low : l.bits ≤ 180224 * l.sort;
}
