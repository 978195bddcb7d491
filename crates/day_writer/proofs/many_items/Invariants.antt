use mathlib.Core.Path.{◌≡◌}
use Rattle.day_writer.proofs.Counted.{many_from}
use Rattle.day_writer.proofs.many_items.Given as goal

abbrev pub invariant-loop-sort : goal.invariant-loop-sort
invariant-loop-sort l = many_from l.most l.item_counts l.sort ≡ many_from l.most l.item_counts 0
