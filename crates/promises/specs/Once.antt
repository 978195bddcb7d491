-- 02, M-101, what its refusal gives: a drained rule of a sheet that is folded covers each point at most once. So the list at a point has no rule twice,
-- after any number of drained rules: it is some of them, in their order; and so it has at most as many entries as rules were drained.
use Rattle.std.specs.Prelude.{◌≡◌, List, ℕ, ◌≤◌, ◌<◌, length, take}
use Rattle.laws.specs.Lists.{All, InTurn}
use Rattle.definition.specs.Rule.{Rule, no_rule}
use Rattle.definition.specs.Sheet.{Form, Limits}
use Rattle.definition.specs.Stop.{drained}
use Rattle.definition.specs.Point.{dimensions, selector, combinations, list_at}
use Rattle.definition.specs.Fold.{fold}
use Rattle.promises.specs.Conditions.{Accepted}

-- ds are the drained rules, p is a point
abbrev pub CoversOnce : List Rule → List ℕ → Type 0
CoversOnce ds p = All (λ r. combinations (selector dimensions r) p ≤ 1) ds

-- after n of them
abbrev pub NoneTwice : List Rule → List ℕ → ℕ → Type 0
NoneTwice ds p n = InTurn no_rule (take n ds) (list_at (take n ds) p) × (length (list_at (take n ds) p) ≤ n)

-- THE STATEMENT, of an accepted fold of rules rs
abbrev pub Once : Form → Limits → ℕ → List ℕ → Type 0
Once form limits room sheet = All (λ b. b < 256) sheet → (fold form limits room sheet).code ≡ 0 → (rs : List Rule) → Accepted form limits sheet rs
    → (p : List ℕ) → CoversOnce (drained rs) p × ((n : ℕ) → NoneTwice (drained rs) p n)
