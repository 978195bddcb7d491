-- THE FOLD'S ANSWERS: a refusal by 1 to 4, by 11, 5, 6 or 14, and the result of all other sheets. Rests on the fold by cases.
use mathlib.Core.Path.{◌≡◌, refl, sym, subst}
use mathlib.Core.List.{List}
use mathlib.Core.Option.{some, none}
use Prim.Native.Nat.{ℕ, ◌≤◌}
use lib.ListN.{length}
use Rattle.definition.specs.Field.{got, refused}
use Rattle.definition.specs.Rule.{Rule}
use Rattle.definition.specs.Sheet.{Form, sheet_limits, decode}
use Rattle.definition.specs.Stop.{drained}
use Rattle.definition.specs.Point.{dimensions}
use Rattle.definition.specs.Lists.{first_refused}
use Rattle.definition.specs.Overlap.{first_overlap}
use Rattle.definition.specs.Box.{box_count}
use Rattle.definition.specs.Fold as definition
use Rattle.definition.specs.Fold.{over, drain, numbers, refusal, buffer, fold}
use Rattle.answers.specs.declared.Folded.{Folded}
use Rattle.fold_write.specs.Emission.{emission}
use Rattle.answers.specs.Numbers.{fold_numbers}
use Rattle.normalize.specs.Folds.{Folds}
use Rattle.definition.proofs.Drained.{drain-lists, drain-fine}
use Rattle.definition.proofs.FoldCases.{fold-refused, fold_over, fold-fine}

module _ (form : Form) (sheet out : List ℕ) (r : Folded) where
  -- an answer that is the definition's
  answers : (after : List ℕ) (f : definition.Folded) → fold form sheet_limits (length out) sheet ≡ f → fold_numbers r ≡ numbers f → after ≡ buffer f.result out → Folds form sheet out r after
  answers after f e n b = subst (λ g. (fold_numbers r ≡ numbers g) × (after ≡ buffer g.result out)) (sym e) (n, b)

  -- 1 to 4
  pub sheet-refused : (c p : ℕ) → decode form sheet_limits sheet ≡ refused c p → fold_numbers r ≡ numbers (refusal c p) → Folds form sheet out r out
  sheet-refused c p e n = answers out (refusal c p) (fold-refused form sheet_limits (length out) sheet c p e) n refl

  module _ (rs : List Rule) (end : ℕ) (e : decode form sheet_limits sheet ≡ got rs end) where
    -- 11, 5, 6 and 14
    pub rules-refused : (c p : ℕ) → drain sheet_limits (drained rs) ≡ over c p → fold_numbers r ≡ numbers (refusal c p) → Folds form sheet out r out
    rules-refused c p d n = answers out (refusal c p) (fold_over form sheet_limits (length out) sheet rs end e c p d) n refl

    module _ (apart : first_overlap (drained rs) ≡ none) (few : box_count dimensions (drained rs) ≤ sheet_limits.boxes) where
      pub list-refused : (c k : ℕ) → first_refused sheet_limits (drained rs) ≡ some (c, k) → fold_numbers r ≡ numbers (refusal c k) → Folds form sheet out r out
      list-refused c k f n = rules-refused c k (drain-lists sheet_limits (drained rs) apart few c k f) n

      -- 7, or the result
      pub rules-folded : (after : List ℕ) → first_refused sheet_limits (drained rs) ≡ none
          → (fold_numbers r ≡ numbers (emission form (length out) rs)) × (after ≡ buffer (emission form (length out) rs).result out) → Folds form sheet out r after
      rules-folded after f h = answers after (emission form (length out) rs) (fold-fine form sheet_limits (length out) sheet rs end e (drain-fine sheet_limits (drained rs) apart few f)) h.0 h.1
