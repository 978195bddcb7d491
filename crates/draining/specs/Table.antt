-- The tables of the drained rules, and the rules that begin at noted bits.
use Rattle.std.specs.Prelude.{◌≡◌, List, [], ◌∷◌, ℕ, zero, suc, ◌+◌, ◌<◌, length, get_or}
use Rattle.definition.specs.Rule.{Rule}
use Rattle.definition.specs.Sheet.{Form}
use Rattle.sheet.specs.Begin.{rule_read_at}
use Rattle.tables.specs.Ranges.{table_row}
use Rattle.tables.specs.Rules as tables
use Rattle.tables.specs.Rules.{TimesAt, DaysHeld}
use Rattle.draining.specs.Rule.{replace_number}

-- a rule's days in their rows, and whether it replaces
pub record DaysAt (replacing counts ranges : List ℕ) (k : ℕ) (r : Rule) : Type 0 where
  pub replacing-held : get_or replacing k 0 ≡ replace_number r
  pub days-held : DaysHeld (table_row counts k 4) (table_row ranges k 256) r

-- a rule in its rows of the tables
abbrev pub TabledAt : (states counts spans replacing range_counts ranges : List ℕ) → ℕ → Rule → Type 0
TabledAt states counts spans replacing range_counts ranges k r = TimesAt states counts spans k r × DaysAt replacing range_counts ranges k r

-- WHAT THE TABLES HOLD for some rules, each at its number
abbrev pub Tabled : (states counts spans replacing range_counts ranges : List ℕ) → List Rule → Type 0
Tabled states counts spans replacing range_counts ranges rs = (k : ℕ) → k < length rs → TabledAt states counts spans replacing range_counts ranges k (tables.rule_at rs k)

-- the rules of a form that begin at n noted bits from place i on
unfoldable pub rules_from : Form → List ℕ → List ℕ → ℕ → ℕ → List Rule
rules_from form s begins i zero = []
rules_from form s begins i (suc n) = rule_read_at form s (get_or begins i 0) ∷ rules_from form s begins (i + 1) n
