use Prim.Native.Nat.{◌-◌, ◌≤◌, ◌<◌}
use lib.ListN.{length}
use Rattle.forms.specs.Form.{as_form}
use Rattle.item_writer.proofs.Chain.{Still}
use Rattle.tables.specs.Items.{rows_below}
use Rattle.tables.specs.Pages.{day_rules}
use Rattle.day_writer.specs.Rules.{Countable, rules_bits, day_in, Whole}
use Rattle.day_writer.proofs.Laid.{left_rules}
use Rattle.day_writer.proofs.write_day.Given as goal

-- the rules of the entries left, written behind what stands there, leave what all of them leave
abbrev pub invariant-loop-entry : goal.invariant-loop-entry
invariant-loop-entry l = record {
  inside : l.entry ≤ length l.words;
  known : l.operator < 3;
  whole : Whole (as_form l.form) l.words l.entry (length l.words - l.entry);
  countable : Countable (as_form l.form) (left_rules (as_form l.form) l.ends l.item_counts l.words l.operator l.entry);
  still : Still l.initial.out l.at (rules_bits (as_form l.form) (day_rules (rows_below l.ends l.item_counts 4) (day_in l.words 0 (length l.words)))) l.out l.next
      (rules_bits (as_form l.form) (left_rules (as_form l.form) l.ends l.item_counts l.words l.operator l.entry));
}

abbrev pub decreases-loop-entry : goal.decreases-loop-entry
decreases-loop-entry l = length l.words - l.entry
