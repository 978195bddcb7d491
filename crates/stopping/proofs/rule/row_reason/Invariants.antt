-- `stopping::rule::row_reason` meets its contract: what was found and what is left make the whole.
use mathlib.Core.Path.{◌≡◌}
use Prim.Native.Nat.{◌+◌, ◌*◌, ◌-◌, ◌≤◌}
use Rattle.definition.specs.Field.{sheet_bits}
use Rattle.item.specs.Sort.{number_of}
use Rattle.stopping.specs.Rule.{begun, row_reasoned}
use Rattle.stopping.proofs.rule.row_reason.Given as goal

abbrev pub invariant-loop-i : goal.invariant-loop-i
invariant-loop-i l = record {
  near : l.found.at + (l.count - l.i) * 52 ≤ l.start + l.count * 52;
  same : row_reasoned (number_of l.sort) (l.count - l.i) (sheet_bits l.sheet) l.found ≡ row_reasoned (number_of l.sort) l.count (sheet_bits l.sheet) (begun l.start);
}
