-- A sheet in its parts: its rules with the bits at which they begin, and the rules left where they stand.
use Rattle.std.specs.Prelude.{◌≡◌, false, ℕ, ◌*◌, ◌-◌, ◌≤◌, ◌<◌, ◌^◌, length, take, drop}
use mathlib.Core.List.{List, flat_map}
use Rattle.laws.specs.Lists.{All}
use Rattle.definition.specs.Field.{got, sheet_bits}
use Rattle.definition.specs.Rule.{Rule}
use Rattle.definition.specs.Sheet.{Form, sheet_limits, rule, decode}
use Rattle.definition.specs.Stop.{drained, left, why}
use Rattle.definition.specs.Fold.{many_items}
use Rattle.forms.specs.Form.{Narrow}
use Rattle.sheet.specs.Rules.{begun}

module _ (form : Form) where
  -- the rules of a sheet, the bit after them, and where each begins
  pub record SheetRead (sheet begins : List ℕ) (rs : List Rule) (end : ℕ) : Type 0 where
    pub narrow : Narrow form
    pub read : decode form sheet_limits sheet ≡ got rs end
    pub before : List ℕ
    pub room : length rs ≤ length before
    pub noted : begins ≡ begun form sheet before

  -- the rules of a sheet, so many, up to a bit
  abbrev pub Readings : List ℕ → List ℕ → ℕ → ℕ → Type 0
  Readings sheet begins many end = (rs : List Rule) × (SheetRead sheet begins rs end × (many ≡ length rs))

  -- the bits of the rules left stand in the sheet between two places; how many rules were drained and are left; that the form can count the items of
  -- these; and why the first of them stops
  pub record Leaving (sheet : List ℕ) (rs : List Rule) (start end drained_rules left_rules reason : ℕ) : Type 0 where
    pub ordered : start ≤ end
    pub inside : end ≤ 8 * length sheet
    pub low : end < 2 ^ 25
    pub stands : take (end - start) (drop start (sheet_bits sheet)) ≡ flat_map (rule form sheet_limits).write (left rs)
    pub drained-many : length (drained rs) ≡ drained_rules
    pub left-many : length (left rs) ≡ left_rules
    pub left-few : left_rules ≤ sheet_limits.rules
    pub left-counted : All (λ r. many_items form r ≡ false) (left rs)
    pub told : why rs ≡ reason
