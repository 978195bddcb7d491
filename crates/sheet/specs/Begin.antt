-- The rule that is read at a bit, and when there is one.
use Rattle.std.specs.Prelude.{◌≡◌, List, ℕ}
use Rattle.definition.specs.Field.{Read, got, refused}
use Rattle.definition.specs.Rule.{Rule, no_rule}
use Rattle.definition.specs.Sheet.{Form, sheet_limits, rule}

abbrev pub rule_of : Read Rule → Rule
rule_of (got r q) = r
rule_of (refused c p) = no_rule

module _ (form : Form) where
  unfoldable pub rule_read_at : List ℕ → ℕ → Rule
  rule_read_at s p = rule_of ((rule form sheet_limits).read s p)

  -- a rule is read there
  pub record Readable (s : List ℕ) (p : ℕ) : Type 0 where
    pub end : ℕ
    pub read : (rule form sheet_limits).read s p ≡ got (rule_read_at s p) end
