use mathlib.Core.Path.{◌≡◌}
use mathlib.Core.List.{List}
use Prim.Native.Nat.{ℕ, ◌+◌, ◌-◌, ◌*◌, ◌≤◌}
use lib.ListN.{length}
use Rattle.forms.specs.Form.{as_form}
use Rattle.tables.specs.Items.{row_place}
use Rattle.day_writer.specs.Rules.{bits_per_word, rules_bits, Whole}
use Rattle.day_writer.proofs.Laid.{left_rules}
use Rattle.day_writer.proofs.measure_day.Given as goal

-- the entries passed have so many rules and bits, and those left have the rest, with whatever operator
abbrev pub invariant-loop-at : goal.invariant-loop-at
invariant-loop-at l = record {
  inside : l.at ≤ length l.words;
  whole : Whole (as_form l.form) l.words l.at (length l.words - l.at);
  passed : (ends : List ℕ) → row_place l.item_counts 4 ≤ length ends → (operator : ℕ)
      × (length (left_rules (as_form l.form) ends l.item_counts l.words 0 0) ≡ l.rules + length (left_rules (as_form l.form) ends l.item_counts l.words operator l.at))
      × (length (rules_bits (as_form l.form) (left_rules (as_form l.form) ends l.item_counts l.words 0 0))
      ≡ l.bits + length (rules_bits (as_form l.form) (left_rules (as_form l.form) ends l.item_counts l.words operator l.at)));
  few : l.rules ≤ l.at;
  low : l.bits ≤ bits_per_word * l.at;
}

abbrev pub decreases-loop-at : goal.decreases-loop-at
decreases-loop-at l = length l.words - l.at
