-- The first rule whose comment has no room in a form, found by going over the rules where they begin.
use mathlib.Core.Path.{◌≡◌, ap, ◌∙◌}
use mathlib.Core.Bool.{Bool, true, false}
use mathlib.Core.List.{List}
use Prim.Native.Nat.{ℕ, ◌+◌, ◌^◌, ◌<◌}
use native.Mathlib.Omega.{arith}
use lib.Dec.{leb}
use lib.ListN.{get_or}
use borrow.Author.Count.{below_more}
use mathlib.Core.Option.{none, some}
use Rattle.laws.proofs.Passing.{index-first, index-none}
use Rattle.definition.specs.Rule.{Rule, no_rule}
use Rattle.definition.specs.Sheet.{Form}
use Rattle.definition.specs.Forms.{first_long_comment}
use Rattle.sheet.specs.Begin.{rule_read_at}
use Rattle.sheet.specs.Rules.{rules_at}
use Rattle.sheet.proofs.Begins.{rules-many, rules-each}

module _ (form to : Form) (s begins : List ℕ) where
  -- has the comment of rule j no room?
  abbrev long : ℕ → Bool
  long j = leb (2 ^ to.comment) (rule_read_at form s (get_or begins j 0)).state.comment

  abbrev pub NoneBefore : ℕ → Type 0
  NoneBefore k = (j : ℕ) → j < k → long j ≡ false

  pub none-next : (k : ℕ) → NoneBefore k → long k ≡ false → NoneBefore (k + 1)
  none-next k h e j l = below_more (λ i. long i ≡ false) k h e j (omega arith)

  module _ (n : ℕ) where
    abbrev test : Rule → Bool
    test r = leb (2 ^ to.comment) r.state.comment

    at : (j : ℕ) → j < n → test (get_or (rules_at form s begins n) j no_rule) ≡ long j
    at j l = ap test (rules-each form s begins n j l)

    pub long-found : (k : ℕ) → k < n → long k ≡ true → NoneBefore k → first_long_comment to (rules_at form s begins n) ≡ some k
    unfolding first_long_comment
    long-found k l e h =
        index-first test no_rule (rules_at form s begins n) k (omega (arith, rules-many form s begins n)) (at k l ∙ e) (λ j m. at j (omega arith) ∙ h j m)

    pub long-none : NoneBefore n → first_long_comment to (rules_at form s begins n) ≡ none
    unfolding first_long_comment
    long-none h = index-none test no_rule (rules_at form s begins n) (λ j m. let l : j < n = omega (arith, rules-many form s begins n) in at j l ∙ h j l)
