use mathlib.Core.Path.{◌≡◌}
use Rattle.item_writer.proofs.Chain.{Still}
use Rattle.tables.specs.Items.{row_place}
use Rattle.rule_writer.specs.Rows.{rows_bits}
use Rattle.rule_writer.proofs.row.put_rows.Given as goal

abbrev pub invariant-loop-sort : goal.invariant-loop-sort
invariant-loop-sort l = record {
  placed : l.place ≡ row_place l.item_counts l.sort;
  still : Still l.initial.out l.at (rows_bits l.ends l.item_counts 0) l.out l.next (rows_bits l.ends l.item_counts l.sort);
}
