-- `sheet::end::row_end` meets its contract. The loop's invariant: what is left from here ends as the whole row does, and each item passed
-- took 52 bits at most.
use mathlib.Core.Path.{◌≡◌}
use Prim.Native.Nat.{◌+◌, ◌*◌, ◌-◌, ◌≤◌}
use Rattle.definition.specs.Field.{sheet_bits}
use Rattle.item.specs.Sort.{number_of}
use Rattle.sheet.specs.End.{item_ends, skip_all}
use Rattle.sheet.proofs.end.row_end.Given as goal

abbrev pub invariant-loop-i : goal.invariant-loop-i
invariant-loop-i l = record {
  near : l.at + (l.count - l.i) * 52 ≤ l.start + l.count * 52;
  same : skip_all (item_ends (number_of l.sort)) (l.count - l.i) (sheet_bits l.sheet) l.at ≡ skip_all (item_ends (number_of l.sort)) l.count (sheet_bits l.sheet) l.start;
}
