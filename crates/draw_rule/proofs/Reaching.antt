-- The boxes that are reached over the runs are the covered ones. Rests on the laws of lists spread out.
use mathlib.Core.Path.{◌≡◌, refl, sym, ap, ap₂, ◌∙◌}
use mathlib.Core.Bool.{cond}
use mathlib.Core.List.{List, [], ◌++◌, flat_map, append-nil}
use Prim.Native.Nat.{ℕ, zero, suc, ◌+◌, ◌-◌, ◌*◌, ◌≤◌, ◌<◌}
use native.Mathlib.Omega.{arith}
use lib.ListN.{get_or}
use Rattle.laws.specs.Lists.{from}
use Rattle.laws.proofs.Numbers.{from-append}
use Rattle.laws.proofs.Spread.{flat_map-append}
use Rattle.draw_rule.specs.Update.{covered, over_columns, leaves}
use Rattle.draw_rule.specs.Runs.{RunOf, RunsUpTo, begin_of, end_of, over_run, reached, reached_from}

-- ## Lists spread out over numbers side by side
module _ (f g : ℕ → List ℕ) where
  spread-moved : (m s n : ℕ) → ((k : ℕ) → s ≤ k → k < s + n → f k ≡ g (m + k)) → flat_map f (from s n) ≡ flat_map g (from (m + s) n)
  unfolding flat_map from
  spread-moved m s zero h = refl
  spread-moved m s (suc n) h =
      let e : m + suc s ≡ suc (m + s) = omega arith in
      ap₂ ◌++◌ (h s (omega arith) (omega arith)) (spread-moved m (suc s) n (λ k a b. h k (omega arith) (omega arith)) ∙ ap (λ t. flat_map g (from t n)) e)

  spread_same : (s n : ℕ) → ((k : ℕ) → s ≤ k → k < s + n → f k ≡ g k) → flat_map f (from s n) ≡ flat_map g (from s n)
  spread_same s n h =
      let e : 0 + s ≡ s = omega arith in
      spread-moved 0 s n (λ k a b. let i : k ≡ 0 + k = omega arith in h k a b ∙ ap g i) ∙ ap (λ t. flat_map g (from t n)) e

spread_none : (f : ℕ → List ℕ) (s n : ℕ) → ((k : ℕ) → s ≤ k → k < s + n → f k ≡ []) → flat_map f (from s n) ≡ []
unfolding flat_map from
spread_none f s zero h = refl
spread_none f s (suc n) h = ap₂ ◌++◌ (h s (omega arith) (omega arith)) (spread_none f (suc s) n (λ k a b. h k (omega arith) (omega arith)))

-- ## A run
module _ (sizes counts rows cuts ranges runs : List ℕ) where
  over-same : (i node r : ℕ) (below below' : ℕ → List ℕ) → ((n : ℕ) → below n ≡ below' n) → RunOf rows cuts ranges i r (get_or sizes i 0) (begin_of runs i r) (end_of runs i r)
      → over_run sizes counts runs i below node r ≡ over_columns sizes counts rows cuts ranges i below' node r
  unfolding over_run over_columns
  over-same i node r below below' same run =
      sym (ap (flat_map f) parts ∙ flat_map-append f (from 0 b) (from b (e - b) ++ from e (w - e)) ∙ ap₂ ◌++◌ low (flat_map-append f (from b (e - b)) (from e (w - e)) ∙ ap₂ ◌++◌ mid high ∙ append-nil _))
    where
      w : ℕ
      w = get_or sizes i 0

      b : ℕ
      b = begin_of runs i r

      e : ℕ
      e = end_of runs i r

      f : ℕ → List ℕ
      f y = cond (covered rows cuts ranges i r y) (below' (node * w + y)) []

      parts : from 0 w ≡ from 0 b ++ (from b (e - b) ++ from e (w - e))
      parts =
          let n : b + (e - b + (w - e)) ≡ w = omega (arith, run.ordered, run.inside) in
          sym (ap (from 0 b ++◌) (from-append b (e - b) (w - e) e (omega (arith, run.ordered))) ∙ from-append 0 b (e - b + (w - e)) b (omega arith) ∙ ap (from 0) n)

      low : flat_map f (from 0 b) ≡ []
      low = spread_none f 0 b (λ k _ l. rw (run.before k (omega arith)))

      mid : flat_map f (from b (e - b)) ≡ flat_map below (from (node * w + b) (node * w + e - (node * w + b)))
      mid =
          let n : e - b ≡ node * w + e - (node * w + b) = omega arith in
          spread-moved f below (node * w) b (e - b) (λ k l m. rw (run.within k l (omega arith)) (sym (same (node * w + k)))) ∙ ap (λ n. flat_map below (from (node * w + b) n)) n

      high : flat_map f (from e (w - e)) ≡ []
      high = spread_none f e (w - e) (λ k l m. rw (run.behind k l (omega (arith, run.inside))))

  -- THE BOXES REACHED are the covered ones
  pub reached-leaves : (l : ℕ) → RunsUpTo sizes counts rows cuts ranges runs l → (node : ℕ) → reached sizes counts runs l node ≡ leaves sizes counts rows cuts ranges l node
  unfolding reached leaves
  reached-leaves zero found node = refl
  reached-leaves (suc i) found node =
      spread_same (over_run sizes counts runs i (reached sizes counts runs i) node) (over_columns sizes counts rows cuts ranges i (leaves sizes counts rows cuts ranges i) node) 0 (get_or counts i 0)
      (λ r _ l.
      over-same i node r (reached sizes counts runs i) (leaves sizes counts rows cuts ranges i) (reached-leaves i (λ j m. found j (omega arith))) (found i (omega arith) r (omega arith)))

  pub reached-all : RunsUpTo sizes counts rows cuts ranges runs 4 → leaves sizes counts rows cuts ranges 4 0 ≡ reached_from sizes counts runs 4 0 1
  unfolding reached_from flat_map from
  reached-all found = sym (append-nil (reached sizes counts runs 4 0) ∙ reached-leaves 4 found 0)
