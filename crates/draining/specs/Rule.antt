-- A rule in the tables: its state, how many spans it has, these from sixteen times its number on, and whether it replaces.
use Rattle.std.specs.Prelude.{◌≡◌, List, [], ◌∷◌, map, Bool, ◌||◌, cond, ℕ, ◌*◌, length, set, Some, None}
use Rattle.std.specs.Prelude as std
use Rattle.std.proofs.Math.Option.{Option, none, some}
use Rattle.std.proofs.lemmas.List.Edits.{sets}
use Rattle.laws.specs.Lists.{any_of}
use Rattle.definition.specs.Rule.{Span, Rule}
use Rattle.definition.specs.Stop.{is_fallback, span_stops, stops}
use Rattle.definition.specs.Point.{replaces}
use Rattle.canonical_date.specs.Rule.{days_stop}
use Rattle.codes.specs.Number.{state_number, span_number}

-- the spans before the first that may reach tomorrow
unfoldable pub today : List Span → List Span
today [] = []
today (x ∷ xs) = cond (span_stops x) [] (x ∷ today xs)

-- those that are loaded: none where an item of days stops
abbrev pub loaded_spans : Rule → List Span
loaded_spans r = cond (days_stop r) [] (today r.spans)

-- an item or a span stops
abbrev pub parts_stop : Rule → Bool
parts_stop r = days_stop r || any_of span_stops r.spans

abbrev pub load_of : std.Option ℕ → Option ℕ
load_of (Some n) = some n
load_of None = none

abbrev pub replace_number : Rule → ℕ
replace_number r = cond (replaces r) 1 0

-- a table with a number set, unless the rule stops
abbrev pub set_unless : Bool → List ℕ → ℕ → ℕ → List ℕ
set_unless stop l i v = cond stop l (set l i v)

-- the three tables that a rule's title and its number of spans fill
pub record SetRule (r : Rule) (i count : ℕ) (states counts replacing states' counts' replacing' : List ℕ) (stop : Bool) : Type 0 where
  pub stopped : stop ≡ is_fallback r.operator
  pub states-set : states' ≡ set_unless (is_fallback r.operator) states i (state_number r.state)
  pub counts-set : counts' ≡ set_unless (is_fallback r.operator) counts i count
  pub replacing-set : replacing' ≡ set_unless (is_fallback r.operator) replacing i (replace_number r)

-- the four tables after rule number i; where it stops, only its own row of spans was written
pub record DrainedRule (r : Rule) (i : ℕ) (states counts spans replacing states' counts' spans' replacing' : List ℕ) : Type 0 where
  pub states-drained : states' ≡ set_unless (stops r) states i (state_number r.state)
  pub counts-drained : counts' ≡ set_unless (stops r) counts i (length r.spans)
  pub spans-drained : spans' ≡ sets spans (i * 16) (map span_number (loaded_spans r))
  pub replacing-drained : replacing' ≡ set_unless (stops r) replacing i (replace_number r)
