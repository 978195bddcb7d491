-- DRAINED AND LEFT: the rules before the first stopper are the sheet's first rules, and none of them stops; with the rules left they are all
-- rules. And how they are judged: 11 where a rule overlaps, 5 where there are too many boxes, 6 or 14 where a rule is refused for its lists, else fine. Rests on the
-- definition alone.
use mathlib.Core.Path.{◌≡◌, refl}
use mathlib.Core.Bool.{Bool, true, false, cond}
use mathlib.Core.List.{List, [], ◌∷◌}
use mathlib.Core.Option.{Option, some, none, map}
use Prim.Native.Nat.{ℕ, zero, suc, ◌+◌, ◌≤◌, ◌<◌}
use native.Mathlib.Omega.{arith}
use lib.ListN.{length, drop, get_or}
use borrow.Author.Tests.{lt-ltb, le-ltb, ltb-false}
use lib.Dec.{ltb}
use Rattle.definition.specs.Field.{days_twice, many_boxes}
use Rattle.definition.specs.Rule.{Rule, no_rule}
use Rattle.definition.specs.Sheet.{Limits}
use Rattle.definition.specs.Stop.{stops, drained, left}
use Rattle.definition.specs.Point.{dimensions}
use Rattle.definition.specs.Lists.{first_refused}
use Rattle.definition.specs.Overlap.{first_overlap}
use Rattle.definition.specs.Box.{box_count}
use Rattle.definition.specs.Fold.{Drained, fine, over, or_else, as_met, judged, drain}

-- ## The drained rules
pub drained-fewer : (rs : List Rule) → length (drained rs) ≤ length rs
unfolding drained
drained-fewer [] = omega arith
drained-fewer (r ∷ rs) = go (stops r) refl (drained-fewer rs)
  where
    go : (b : Bool) → stops r ≡ b → length (drained rs) ≤ length rs → length (drained (r ∷ rs)) ≤ suc (length rs)
    go true e ih = rw (e, drained) (omega arith)
    go false e ih = rw (e, drained) (omega (arith, ih))

-- each is the rule at its place, and does not stop
pub drained-each : (rs : List Rule) (k : ℕ) → k < length (drained rs) → (get_or (drained rs) k no_rule ≡ get_or rs k no_rule) × (stops (get_or rs k no_rule) ≡ false)
unfolding drained
drained-each [] k l = absurd (omega arith)
drained-each (r ∷ rs) k l = go (stops r) refl k l (drained-each rs)
  where
    go : (b : Bool) → stops r ≡ b → (k : ℕ) → k < length (drained (r ∷ rs))
        → ((j : ℕ) → j < length (drained rs) → (get_or (drained rs) j no_rule ≡ get_or rs j no_rule) × (stops (get_or rs j no_rule) ≡ false))
        → (get_or (drained (r ∷ rs)) k no_rule ≡ get_or (r ∷ rs) k no_rule) × (stops (get_or (r ∷ rs) k no_rule) ≡ false)
    go true e k l ih = let m : k < 0 = rw (e, drained) at l in absurd (omega arith)
    go false e zero l ih = (rw (e, drained) refl, e)
    go false e (suc k) l ih =
        let m : suc k < suc (length (drained rs)) = rw (e, drained) at l in
        let i = ih k (omega arith) in
        (rw (e, drained) i.0, i.1)

-- behind them are the rules left, and every rule is one or the other
pub left_behind : (rs : List Rule) → (drop (length (drained rs)) rs ≡ left rs) × (length (drained rs) + length (left rs) ≡ length rs)
unfolding drained left
left_behind [] = (refl, refl)
left_behind (r ∷ rs) = go (stops r) refl (left_behind rs)
  where
    go : (b : Bool) → stops r ≡ b → (drop (length (drained rs)) rs ≡ left rs) × (length (drained rs) + length (left rs) ≡ length rs)
        → (drop (length (drained (r ∷ rs))) (r ∷ rs) ≡ left (r ∷ rs)) × (length (drained (r ∷ rs)) + length (left (r ∷ rs)) ≡ length (r ∷ rs))
    go true e ih = rw (e, drained, left) (refl, omega arith)
    go false e ih = rw (e, drained, left) (ih.0, omega (arith, ih.1))

-- ## How they are judged
-- what is fine was fine in both
refused-not-fine : (c p : ℕ) → over c p ≡ fine → ⊥
refused-not-fine c p h = let q : ◌≡◌ {A = ℕ} 0 1 = cc in omega arith

both-fine : (a b : Drained) → or_else a b ≡ fine → (a ≡ fine) × (b ≡ fine)
both-fine fine b h = (refl, h)
both-fine (over c p) b h = absurd (refused-not-fine c p h)

none-met : (o : Option (ℕ × ℕ)) → as_met o ≡ fine → o ≡ none
none-met none h = refl
none-met (some m) h = absurd (refused-not-fine m.0 m.1 h)

none-twice : (c : ℕ) (o : Option ℕ) → as_met (map (λ k. (c, k)) o) ≡ fine → o ≡ none
none-twice c none h = refl
none-twice c (some k) h = absurd (refused-not-fine c k h)

module _ (limits : Limits) (rs : List Rule) where
  pub drain-twice : (k : ℕ) → first_overlap rs ≡ some k → drain limits rs ≡ over days_twice k
  unfolding drain judged
  drain-twice k h = rw (h, judged) refl

  module _ (apart : first_overlap rs ≡ none) where
    pub drain-many : limits.boxes < box_count dimensions rs → drain limits rs ≡ over many_boxes (box_count dimensions rs)
    unfolding drain judged
    drain-many h = let e = lt-ltb limits.boxes (box_count dimensions rs) h in rw (apart, e, judged) refl

    module _ (few : box_count dimensions rs ≤ limits.boxes) where
      pub drain-lists : (c k : ℕ) → first_refused limits rs ≡ some (c, k) → drain limits rs ≡ over c k
      unfolding drain judged
      drain-lists c k h = let e = le-ltb limits.boxes (box_count dimensions rs) few in rw (apart, e, h, judged) refl

      pub drain-fine : first_refused limits rs ≡ none → drain limits rs ≡ fine
      unfolding drain judged
      drain-fine h = let e = le-ltb limits.boxes (box_count dimensions rs) few in rw (apart, e, h, judged) refl

  -- and what fine says
  pub fine-drain : drain limits rs ≡ fine → (first_overlap rs ≡ none) × (box_count dimensions rs ≤ limits.boxes) × (first_refused limits rs ≡ none)
  unfolding drain judged
  fine-drain h =
      let boxes = box_count dimensions rs in
      let j = both-fine (as_met (map (λ k. (days_twice, k)) (first_overlap rs))) _ h in
      let k = both-fine (cond (ltb limits.boxes boxes) (over many_boxes boxes) fine) (as_met (first_refused limits rs)) j.1 in
      (none-twice days_twice (first_overlap rs) j.0, within (ltb limits.boxes boxes) refl k.0, none-met (first_refused limits rs) k.1)
    where
      within : (b : Bool) → ltb limits.boxes (box_count dimensions rs) ≡ b → cond b (over many_boxes (box_count dimensions rs)) fine ≡ fine
          → box_count dimensions rs ≤ limits.boxes
      within true e h = absurd (refused-not-fine many_boxes (box_count dimensions rs) h)
      within false e h = ltb-false limits.boxes (box_count dimensions rs) e
