-- 02, M-105, why the fold stopped: its seventh number is k exactly when reason k applies to the first stopper and none before it in the order, and
-- 0 exactly when nothing is left. "Drained rules and bytes are as before": where the drain ends at the first rule that has a reason, the same rules
-- are drained and the same bytes written as where it ends at the first that stops.
use Rattle.std.specs.Prelude.{◌≡◌, List, [], ◌∷◌, ◌++◌, true, false, ℕ, ◌<◌, eqb, length, drop}
use Rattle.laws.specs.Lists.{All, Mem}
use Rattle.definition.specs.Rule.{Rule}
use Rattle.definition.specs.Sheet.{Form, Limits, encode}
use Rattle.definition.specs.Stop.{stops, reasons, reason}
use Rattle.definition.specs.Group.{folded}
use Rattle.definition.specs.Fold.{Folded, fold}
use Rattle.promises.specs.Conditions.{Accepted}
use Rattle.promises.specs.Codes.{Exactly}

-- reason k applies to a rule; and it does, and none before it
abbrev pub Applies : Rule → ℕ → Type 0
Applies r k = Mem (k, true) (reasons r)

abbrev pub FirstReason : Rule → ℕ → Type 0
FirstReason r k = Applies r k × ((j : ℕ) → j < k → Applies r j → ⊥)

-- the first of some rules that stops
pub record FirstStopper (rs : List Rule) (r : Rule) : Type 0 where
  pub before : List Rule
  pub after : List Rule
  pub stands : rs ≡ before ++ r ∷ after
  pub pass : All (λ q. stops q ≡ false) before
  pub halts : stops r ≡ true

-- the rules before the first that has a reason
unfoldable pub until_reason : List Rule → List Rule
until_reason [] = []
until_reason (r ∷ rs) = elim (eqb (reason r) 0) [ true ↦ r ∷ until_reason rs | false ↦ [] ]

-- ## THE STATEMENTS, of an accepted fold of rules rs
module _ (form : Form) (limits : Limits) (room : ℕ) (sheet : List ℕ) where
  abbrev answer : Folded
  answer = fold form limits room sheet

  abbrev OfAccepted : (List Rule → Type 0) → Type 0
  OfAccepted P = answer.code ≡ 0 → (rs : List Rule) → Accepted form limits sheet rs → P rs

  abbrev pub WhyTold : Type 0
  WhyTold = OfAccepted (λ rs. (k : ℕ) → (k ≡ 0 → ⊥) → Exactly (answer.why ≡ k) ((r : Rule) × FirstStopper rs r × FirstReason r k))

  abbrev pub WhyNothing : Type 0
  WhyNothing = OfAccepted (λ rs. Exactly (answer.why ≡ 0) (answer.left ≡ 0))

  abbrev pub AsBefore : Type 0
  AsBefore = OfAccepted (λ rs. (answer.drained ≡ length (until_reason rs))
      × (answer.result ≡ encode form limits (folded (until_reason rs) ++ drop (length (until_reason rs)) rs)))
