-- The rules at the bits that a check notes are the rules that the definition reads.
use mathlib.Core.Path.{◌≡◌, ap, ◌∙◌}
use mathlib.Core.List.{List}
use Prim.Native.Nat.{ℕ, ◌+◌, ◌≤◌, ◌<◌}
use native.Mathlib.Omega.{arith}
use lib.ListN.{length, get_or}
use lib.Seq.{ext_get_or}
use Rattle.definition.specs.Field.{got, sheet_bits}
use Rattle.definition.specs.Rule.{Rule, no_rule}
use Rattle.definition.specs.Sheet.{Form, sheet_limits, decode}
use Rattle.definition.proofs.Bits.{Bytes}
use Rattle.forms.specs.Form.{Narrow}
use Rattle.sheet.specs.Rules.{begun}
use Rattle.sheet.specs.Begin.{rule_read_at}
use Rattle.sheet.proofs.Begins.{rules-begin}
use Rattle.draining.specs.Table.{rules_from}
use Rattle.draining.proofs.Tabling.{rules-at, rules-length}

module _ (form : Form) (narrow : Narrow form) (sheet : List ℕ) (b : Bytes sheet) (rs : List Rule) (q : ℕ) (e : decode form sheet_limits sheet ≡ got rs q) (begins : List ℕ) (room : length rs ≤ length begins) where
  -- THE RULES OF THE SHEET
  pub rules-noted : rules_from form (sheet_bits sheet) (begun form sheet begins) 0 (length rs) ≡ rs
  rules-noted = ext_get_or no_rule _ rs long (λ k l.
      let m : k < length rs = omega (arith, long) in
      let z : 0 + k ≡ k = omega arith in
      rules-at form (sheet_bits sheet) (begun form sheet begins) (length rs) 0 k m ∙ ap (λ j. rule_read_at form (sheet_bits sheet) (get_or (begun form sheet begins) j 0)) z
      ∙ (rules-begin form sheet rs q narrow b e begins room k m).begun-rule)
    where
      long : length (rules_from form (sheet_bits sheet) (begun form sheet begins) 0 (length rs)) ≡ length rs
      long = rules-length form (sheet_bits sheet) (begun form sheet begins) (length rs) 0
