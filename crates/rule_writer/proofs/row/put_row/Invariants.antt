use Rattle.laws.specs.Lists.{All}
use Rattle.item_writer.proofs.Chain.{Still}
use Rattle.tables.specs.Items.{upper_of, Below}
use Rattle.rule_writer.specs.Rows.{pairs_of, row_bits}
use Rattle.rule_writer.proofs.Rows.{pairs_from}
use Rattle.rule_writer.proofs.row.put_row.Given as goal

abbrev pub invariant-loop-pair : goal.invariant-loop-pair
invariant-loop-pair l = record {
  lawful : All (Below (upper_of l.sort)) (pairs_from l.row l.pair);
  still : Still l.initial.out l.at (row_bits l.sort (pairs_of l.row)) l.out l.next (row_bits l.sort (pairs_from l.row l.pair));
}
