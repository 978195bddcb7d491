-- THE LOOKUP'S ANSWERS for a point: 11, 5, 6, 14, 9 where a rule is left, and else the state by the point's list. Rests on the judgement by cases.
use mathlib.Core.Path.{◌≡◌}
use mathlib.Core.List.{List, [], ◌∷◌}
use mathlib.Core.Option.{some, none}
use Prim.Native.Nat.{ℕ, ◌≤◌, ◌<◌}
use native.Mathlib.Omega.{arith}
use lib.ListN.{length}
use Rattle.definition.specs.Field.{unsettled}
use Rattle.definition.specs.Rule.{Rule}
use Rattle.definition.specs.Sheet.{sheet_limits}
use Rattle.definition.specs.Stop.{drained, left}
use Rattle.definition.specs.Point.{dimensions, list_at}
use Rattle.definition.specs.Lists.{first_refused}
use Rattle.definition.specs.Overlap.{first_overlap}
use Rattle.definition.specs.Box.{box_count}
use Rattle.definition.specs.Fold.{over, drain}
use Rattle.definition.specs.Lookup.{Looked, refusal, state_at}
use Rattle.definition.proofs.Drained.{left_behind, drain-lists, drain-fine}
use Rattle.lookup.specs.Looks.{look_at}

module _ (rs : List Rule) (p : List ℕ) (m : ℕ) (answer : Looked) where
  -- 11, 5, 6 and 14
  pub rules-refused : (c q : ℕ) → drain sheet_limits (drained rs) ≡ over c q → answer ≡ refusal c q → answer ≡ look_at rs p m
  unfolding look_at
  rules-refused c q d h = rw (d, look_at) h

  module _ (apart : first_overlap (drained rs) ≡ none) (few : box_count dimensions (drained rs) ≤ sheet_limits.boxes) where
    pub list-refused : (c k : ℕ) → first_refused sheet_limits (drained rs) ≡ some (c, k) → answer ≡ refusal c k → answer ≡ look_at rs p m
    list-refused c k f h = rules-refused c k (drain-lists sheet_limits (drained rs) apart few c k f) h

    module _ (short : first_refused sheet_limits (drained rs) ≡ none) where
      drawn : answer ≡ state_at (left rs) (list_at (drained rs) p) m → answer ≡ look_at rs p m
      unfolding look_at
      drawn h = rw (drain-fine sheet_limits (drained rs) apart few short, look_at) h

      -- 9
      pub left-refused : length (drained rs) < length rs → answer ≡ refusal unsettled 0 → answer ≡ look_at rs p m
      unfolding state_at
      left-refused l h = drawn (go (left rs) (omega (arith, l, (left_behind rs).1)))
        where
          go : (qs : List Rule) → 1 ≤ length qs → answer ≡ state_at qs (list_at (drained rs) p) m
          go [] k = absurd (omega arith)
          go (q ∷ qs) k = h

      -- the state
      pub state-found : length rs ≤ length (drained rs) → answer ≡ state_at [] (list_at (drained rs) p) m → answer ≡ look_at rs p m
      state-found l h = drawn (go (left rs) (omega (arith, l, (left_behind rs).1)))
        where
          go : (qs : List Rule) → length qs ≤ 0 → answer ≡ state_at qs (list_at (drained rs) p) m
          go [] k = h
          go (q ∷ qs) k = absurd (omega arith)
