-- `sheet::check::rules_end` meets its contract. The loop's invariant: what is left from here ends, and is noted, as the whole row is; each
-- rule passed took 3,016 bits at most and 70 at least, so that there is a place for each beginning.
use mathlib.Core.Path.{◌≡◌}
use Prim.Native.Nat.{◌+◌, ◌-◌, ◌*◌, ◌≤◌}
use lib.ListN.{length}
use Rattle.definition.specs.Field.{sheet_bits}
use Rattle.forms.specs.Form.{as_form}
use Rattle.sheet.specs.End.{skip_all}
use Rattle.sheet.specs.Rules.{rule_ends, noted}
use Rattle.sheet.proofs.check.rules_end.Given as goal

abbrev pub invariant-loop-i : goal.invariant-loop-i
invariant-loop-i l = record {
  near : l.at + (l.count - l.i) * 3016 ≤ l.start + l.count * 3016;
  ends : skip_all (rule_ends (as_form l.form)) (l.count - l.i) (sheet_bits l.sheet) l.at ≡ skip_all (rule_ends (as_form l.form)) l.count (sheet_bits l.sheet) l.start;
  noted : noted (as_form l.form) (sheet_bits l.sheet) (l.count - l.i) l.i l.at l.begins
      ≡ noted (as_form l.form) (sheet_bits l.sheet) l.count 0 l.start l.initial.begins;
  far : l.i * 70 ≤ l.at;
  inside : l.at ≤ 8 * length l.sheet;
}
