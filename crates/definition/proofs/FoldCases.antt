-- THE FOLD BY CASES: what it answers where the sheet is refused, where the drained rules are refused by 11, 5 or 6, and where they are fine: with
-- counts that the form can't carry, and without. Rests on the definition alone.
use mathlib.Core.Path.{◌≡◌, refl, ap, ◌∙◌}
use mathlib.Core.List.{List, ◌++◌}
use mathlib.Core.Bool.{true, false}
use Prim.Native.Nat.{ℕ}
use Rattle.definition.specs.Field.{got, refused, past_counts}
use Rattle.definition.specs.Rule.{Rule}
use Rattle.definition.specs.Sheet.{Form, Limits, decode, encode}
use Rattle.definition.specs.Stop.{drained, left}
use Rattle.definition.specs.Group.{folded}
use Rattle.definition.specs.Fold.{Drained, fine, over, drain, refusal, passes_counts, fitted, carried, fold_rules, fold}

module _ (form : Form) (limits : Limits) (room : ℕ) (sheet : List ℕ) where
  pub fold-refused : (c p : ℕ) → decode form limits sheet ≡ refused c p → fold form limits room sheet ≡ refusal c p
  unfolding fold
  fold-refused c p e = rw (e, fold) refl

  module _ (rs : List Rule) (end : ℕ) (e : decode form limits sheet ≡ got rs end) where
    pub fold-judged : (j : Drained) → drain limits (drained rs) ≡ j → fold form limits room sheet ≡ fold_rules form limits room rs j (folded (drained rs))
    unfolding fold
    fold-judged j h = rw (e, fold) (ap (λ d. fold_rules form limits room rs d (folded (drained rs))) h)

    pub fold_over : (c p : ℕ) → drain limits (drained rs) ≡ over c p → fold form limits room sheet ≡ refusal c p
    unfolding fold_rules
    fold_over c p h = fold-judged (over c p) h

    pub fold-fine : drain limits (drained rs) ≡ fine → fold form limits room sheet ≡ carried form limits room rs (folded (drained rs))
    unfolding fold_rules
    fold-fine h = fold-judged fine h

    pub fold-past : drain limits (drained rs) ≡ fine → passes_counts form (folded (drained rs) ++ left rs) ≡ true → fold form limits room sheet ≡ refusal past_counts 0
    unfolding carried
    fold-past h past = fold-fine h ∙ rw (past, carried) refl

    pub fold-carried : drain limits (drained rs) ≡ fine → passes_counts form (folded (drained rs) ++ left rs) ≡ false
        → fold form limits room sheet ≡ fitted form limits room rs (folded (drained rs)) (encode form limits (folded (drained rs) ++ left rs))
    unfolding carried
    fold-carried h kept = fold-fine h ∙ rw (kept, carried) refl
