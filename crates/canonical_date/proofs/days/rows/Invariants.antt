-- `canonical_date::days::rows` meets its contract: a sort's count and its row, then those of the sorts after it. The loop's invariant: whoever loads the
-- rows left loads all four; each count passed took 16 bits at most, each row 832.
use mathlib.Core.Path.{◌≡◌}
use mathlib.Core.List.{List}
use mathlib.Core.Option.{Option}
use Prim.Native.Nat.{ℕ, ◌+◌, ◌*◌, ◌-◌, ◌≤◌}
use Rattle.definition.specs.Field.{sheet_bits}
use Rattle.forms.specs.Form.{as_form}
use Rattle.canonical_date.specs.Days.{loaded, load_rows}
use Rattle.canonical_date.proofs.days.rows.Given as goal

abbrev pub invariant-loop-sort : goal.invariant-loop-sort
invariant-loop-sort l = record {
  counted : l.head + (5 - l.sort) * 16 ≤ l.counts + 80;
  near : l.at + (4 - l.sort) * 832 ≤ l.start + 3328;
  loads : (t k : List ℕ) (r : Option (ℕ × ℕ)) → loaded t k r ≡ load_rows (as_form l.form) (4 - l.sort) (sheet_bits l.sheet) l.head l.sort l.at l.ranges l.range_counts
      → loaded t k r ≡ load_rows (as_form l.form) 4 (sheet_bits l.sheet) l.counts 0 l.start l.initial.ranges l.initial.range_counts;
}
