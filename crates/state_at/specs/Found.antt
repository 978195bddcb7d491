-- The state at a minute by a list of rule numbers over tables, and what 01's numbers are for it.
use Rattle.std.specs.Prelude.{Option, Some, None, true, false, cond, List, [], ◌∷◌, ℕ, ◌+◌, ◌*◌, ◌≤◌, ◌<◌, length, get_or}
use Rattle.definition.specs.Field.{unsettled}
use Rattle.definition.specs.Day.{simple, within}
use Rattle.definition.specs.Lookup.{Looked, refusal, found}
use Rattle.codes.specs.Number.{state_coded, span_at}
use Rattle.words.specs.Words.{part}

-- what 01 answers
abbrev pub looked : Option ℕ → Looked
looked (Some n) = found (state_coded n)
looked None = refusal unsettled 0

-- ## Spans
-- from a state that is shown so far, the one after some spans of state S
unfoldable pub over_spans : ℕ → ℕ → ℕ → List ℕ → Option ℕ
over_spans m S shown [] = Some shown
over_spans m S shown (x ∷ xs) = elim (simple (span_at x)) [ true ↦ over_spans m S (cond (within (span_at x) m) S shown) xs | false ↦ None ]

-- what comes next, where a state is found
abbrev pub onward : Option ℕ → (ℕ → Option ℕ) → Option ℕ
onward (Some n) next = next n
onward None next = None

-- ## Rules
module _ (states counts spans : List ℕ) where
  -- a rule stands in the tables
  abbrev pub InTables : ℕ → Type 0
  InTables k = (k < length states) × (k < length counts) × (k * 16 + get_or counts k 0 ≤ length spans)

  module _ (m : ℕ) where
    -- after a rule's spans, and after those of some rules
    unfoldable pub over_rule : ℕ → ℕ → Option ℕ
    over_rule shown k = over_spans m (get_or states k 0) shown (part spans (k * 16) (get_or counts k 0))

    unfoldable pub over_list : ℕ → List ℕ → Option ℕ
    over_list shown [] = Some shown
    over_list shown (k ∷ ks) = onward (over_rule shown k) (λ after. over_list after ks)
