use Prim.Native.Nat.{◌+◌, ◌-◌, ◌*◌, ◌≤◌}
use Rattle.definition.specs.Field.{sheet_bits}
use Rattle.item.specs.Sort.{number_of}
use Rattle.rule_text.specs.Row.{others_told}
use Rattle.rule_text.proofs.Rows.{Ahead}
use Rattle.rule_text.proofs.row.show_others.Given as goal

-- what is put so far and what is left make the whole
abbrev pub invariant-loop-item : goal.invariant-loop-item
invariant-loop-item l = record {
  near : l.at + (l.count - l._item) * 52 ≤ l.start + l.count * 52;
  ahead : Ahead (others_told (number_of l.sort) l.count (sheet_bits l.sheet) l.start) (number_of l.sort) (sheet_bits l.sheet) l.initial.out l.place l.at l.to l.wordless (l.count - l._item) l.out;
}
