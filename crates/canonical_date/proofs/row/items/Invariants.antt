-- `canonical_date::row::items` meets its contract. The loop's invariant: whoever gives what the items left owe gives what all of them owe; each item
-- passed took 52 bits and 4 places at most.
use mathlib.Core.List.{List}
use Prim.Native.Nat.{ℕ, ◌+◌, ◌*◌, ◌-◌, ◌≤◌}
use Rattle.definition.specs.Field.{sheet_bits}
use Rattle.canonical_date.specs.Row.{Answer, items_ranges, items_end}
use Rattle.canonical_date.proofs.Rows.{Owed}
use Rattle.canonical_date.proofs.row.items.Given as goal

abbrev pub invariant-loop-i : goal.invariant-loop-i
invariant-loop-i l = record {
  near : l.row.next + (l.count - l.i) * 52 ≤ l.start + l.count * 52;
  room : l.row.place + (l.count - l.i) * 4 ≤ l.first + l.count * 4;
  owed : (r : Answer) (after : List ℕ)
      → Owed r after l.row.place l.ranges (items_ranges l.sort (l.count - l.i) (sheet_bits l.sheet) l.row.next) (items_end l.sort (l.count - l.i) (sheet_bits l.sheet) l.row.next)
      → Owed r after l.first l.initial.ranges (items_ranges l.sort l.count (sheet_bits l.sheet) l.start) (items_end l.sort l.count (sheet_bits l.sheet) l.start);
}
