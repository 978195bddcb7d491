-- The drained rules in tables, each at its number: its times (a state, how many spans, and these), and its days (whether it replaces, how
-- many ranges it has in each dimension, and these). Nothing behind the draining reads the sheet.
use Rattle.std.specs.Prelude.{◌≡◌, true, cond, List, map, ℕ, ◌+◌, ◌*◌, ◌^◌, ◌≤◌, ◌<◌, length, get_or}
use Rattle.laws.specs.Lists.{All}
use Rattle.definition.specs.Rule.{State, Rule, no_rule}
use Rattle.definition.specs.Sheet.{Form, form2, sheet_limits, rule}
use Rattle.definition.specs.Point.{dimensions, selector, replaces}
use Rattle.codes.specs.Number.{state_number, span_number}
use Rattle.tables.specs.Sizes.{range_places}
use Rattle.tables.specs.Ranges.{table_row, selector_of}

-- the rule that a number names
abbrev pub rule_at : List Rule → ℕ → Rule
rule_at rs k = get_or rs k no_rule

-- each is one that a sheet can carry: form 2 carries every rule that form 1 does
abbrev pub AllFit : List Rule → Type 0
AllFit = All (λ r. (rule form2 sheet_limits).fits r ≡ true)

-- a state's comment has room in a form; and those of some rules have
abbrev pub Commented : Form → State → Type 0
Commented form S = S.comment < 2 ^ form.comment

abbrev pub AllCommented : Form → List Rule → Type 0
AllCommented form = All (λ r. Commented form r.state)

-- ## Times
-- a rule's state and spans in its rows
pub record TimesAt (states counts spans : List ℕ) (k : ℕ) (r : Rule) : Type 0 where
  pub state-held : get_or states k 0 ≡ state_number r.state
  pub count_held : get_or counts k 0 ≡ length r.spans
  pub few-held : length r.spans ≤ sheet_limits.spans
  pub spans-held : (j : ℕ) → j < length r.spans → get_or spans (k * 16 + j) 0 ≡ get_or (map span_number r.spans) j 0

-- THE TIMES OF SOME RULES, and of no others
pub record RuleTimes (states counts spans : List ℕ) (rs : List Rule) : Type 0 where
  pub all-states : length states ≡ length rs
  pub all-counts : length counts ≡ length rs
  pub all-spans : length spans ≡ length rs * 16
  pub each : (k : ℕ) → k < length rs → TimesAt states counts spans k (rule_at rs k)
  pub fits : AllFit rs

-- ## Days
-- a rule's ranges, the four counts and four rows of ranges being its own
pub record DaysHeld (counts ranges : List ℕ) (r : Rule) : Type 0 where
  pub selected : selector_of counts ranges 4 ≡ selector dimensions r
  pub few : (i : ℕ) → i < 4 → get_or counts i 0 * 2 ≤ range_places

-- THE DAYS OF SOME RULES, so many
pub record RuleDays (counts ranges : List ℕ) (n : ℕ) (rs : List Rule) : Type 0 where
  pub many : n ≡ length rs
  pub few-rules : n ≤ sheet_limits.rules
  pub all-counts : n * 4 ≤ length counts
  pub all-ranges : n * 256 ≤ length ranges
  pub each : (k : ℕ) → k < n → DaysHeld (table_row counts k 4) (table_row ranges k 256) (rule_at rs k)
  pub fits : AllFit rs

-- and beside them which of them replace
pub record Replacing (replacing : List ℕ) (rs : List Rule) : Type 0 where
  pub all-replacing : length rs ≤ length replacing
  pub noted : (k : ℕ) → k < length rs → get_or replacing k 0 ≡ cond (replaces (rule_at rs k)) 1 0
