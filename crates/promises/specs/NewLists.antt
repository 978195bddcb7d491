-- 02, M-108: "The first engine's store has places for 1,025 lists and no more: 512 from before a rule and 513 that the rule can make." What this rests
-- on, M-101 having refused days typed twice: a rule makes at most one new list for each list that stood before it, and one for the empty list.
use Rattle.std.specs.Prelude.{List, ℕ, suc, ◌≤◌, ◌<◌, length}
use Rattle.laws.specs.Lists.{All}
use Rattle.definition.specs.Rule.{Rule}
use Rattle.definition.specs.Sheet.{Form, Limits}
use Rattle.definition.specs.Stop.{drained}
use Rattle.promises.specs.Conditions.{StandsAt, Standing, DaysOnce}

-- at most n lists stand before the rule of index k; then at most one more than n stand after it that didn't before
abbrev pub OneForEach : List Rule → ℕ → ℕ → Type 0
OneForEach ds k n = ((ls : List (List ℕ)) → Standing ds k ls → length ls ≤ n)
    → (ls : List (List ℕ)) → Standing ds (suc k) ls → All (λ l. StandsAt ds k l → ⊥) ls → length ls ≤ suc n

-- THE STATEMENT, of the rules rs of a sheet without days typed twice
abbrev pub NewLists : Form → Limits → List ℕ → Type 0
NewLists form limits sheet = All (λ b. b < 256) sheet → (rs : List Rule) → DaysOnce form limits sheet rs
    → (k : ℕ) → k < length (drained rs) → (n : ℕ) → OneForEach (drained rs) k n
