-- The state at a point and minute, rule by rule out of the tables: which rules cover the point, and the state by a list that a rule is put to.
use Rattle.std.specs.Prelude.{◌≡◌, Bool, true, false, ◌&&◌, cond, List, [], ◌∷◌, ℕ, zero, suc, ◌<◌, length}
use Rattle.std.proofs.Math.Option.{none}
use Rattle.definition.specs.Rule.{Rule}
use Rattle.definition.specs.Overlap.{first_overlap}
use Rattle.codes.specs.Number.{closed_number}
use Rattle.tables.specs.Rules.{RuleTimes, RuleDays, Replacing}
use Rattle.plain_lists.specs.Covers.{RangesThere, holds_in}
use Rattle.std.specs.Prelude.{Option}
use Rattle.state_at.specs.Found.{onward, InTables, over_rule}

-- does a rule cover a point of l dimensions, the last one first?
unfoldable pub covers_point : (counts ranges : List ℕ) → ℕ → ℕ → List ℕ → Bool
covers_point counts ranges rule zero p = true
covers_point counts ranges rule (suc i) [] = false
covers_point counts ranges rule (suc i) (x ∷ p) = covers_point counts ranges rule i p && holds_in counts ranges rule i x

module _ (states counts spans : List ℕ) (m : ℕ) where
  -- the state by a list that a rule is put at the end of, or alone where it replaces, from the state by the list before
  unfoldable pub after_rule : ℕ → Bool → Option ℕ → Option ℕ
  after_rule rule replaces before = cond replaces (over_rule states counts spans m closed_number rule) (onward before (λ shown. over_rule states counts spans m shown rule))

-- what is read of a rule's tables
pub record RuleThere (states counts spans replacing range_counts ranges : List ℕ) (rule : ℕ) : Type 0 where
  pub times-there : InTables states counts spans rule
  pub ranges-there : RangesThere range_counts ranges rule
  pub replacing-there : rule < length replacing
  pub few-rules : rule < 65536

-- THE RULES IN THE TABLES, none with days typed twice
pub record PointRules (states counts spans replacing range_counts ranges : List ℕ) (rs : List Rule) : Type 0 where
  pub times : RuleTimes states counts spans rs
  pub days : RuleDays range_counts ranges (length states) rs
  pub noted : Replacing replacing rs
  pub apart : first_overlap rs ≡ none
