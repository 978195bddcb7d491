-- What is found at a rule that can be read: its days pass and its spans follow them, or an item stops it.
use Rattle.std.specs.Prelude.{◌≡◌, List, true, false, ℕ, ◌≤◌, ◌<◌, ◌^◌, length, Option, Some, None}
use Rattle.definition.specs.Field.{got, read_all}
use Rattle.definition.specs.Rule.{Rule}
use Rattle.definition.specs.Sheet.{span}
use Rattle.canonical_date.specs.declared.days.Spans.{Spans}
use Rattle.canonical_date.specs.Rule.{days_stop}

-- some spans that are read from a bit on
pub record SpansRead (s : List ℕ) (r : Rule) (n q : ℕ) : Type 0 where
  pub many : n ≡ length r.spans
  pub few-spans : n ≤ 16
  pub end : ℕ
  pub near : end < 2 ^ 26
  pub read : read_all span.read n s q ≡ got r.spans end

-- no item of the rule's days stops it, and it has n spans at q
pub record Loads (s : List ℕ) (r : Rule) (n q : ℕ) : Type 0 where
  pub passes : days_stop r ≡ false
  pub spans : SpansRead s r n q

abbrev pub Found : List ℕ → Rule → Option Spans → Type 0
Found s r (Some spans) = Loads s r spans.count spans.at
Found s r None = days_stop r ≡ true
