use mathlib.Core.List.{map, flat_map}
use lib.ListN.{drop}
use Rattle.laws.specs.Lists.{All}
use Rattle.definition.specs.Sheet.{span}
use Rattle.codes.specs.Number.{span_at}
use Rattle.item_writer.proofs.Chain.{Still}
use Rattle.tables.specs.Days.{FitsSpan}
use Rattle.rule_writer.proofs.row.put_spans.Given as goal

abbrev pub invariant-loop-span : goal.invariant-loop-span
invariant-loop-span l = record {
  lawful : All FitsSpan (map span_at (drop l.span-index l.spans));
  still : Still l.initial.out l.at (flat_map span.write (map span_at l.spans)) l.out l.next (flat_map span.write (map span_at (drop l.span-index l.spans)));
}
