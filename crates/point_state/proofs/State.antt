-- THE STATE GOES ALONG WITH THE LIST: from the state by a point's list after some rules, the next rule makes the state by the list after it. So after the last
-- rule it is the state by the list at the point. Rests on one rule more at a point, and on the state by a list of rules' numbers.
use mathlib.Core.Path.{◌≡◌, refl, sym, ap, ◌∙◌, subst}
use mathlib.Core.Bool.{Bool, true, false, not, cond}
use mathlib.Core.List.{List, [], ◌∷◌, ◌++◌, append-nil}
use Prim.Native.Nat.{ℕ, zero, suc, ◌+◌, ◌≤◌, ◌<◌}
use native.Mathlib.Omega.{arith}
use lib.Dec.{eqb}
use lib.ListN.{length, get_or, take}
use lib.Seq.{take-length}
use Rattle.laws.specs.Lists.{All}
use Rattle.laws.proofs.Flags.{bit-flag}
use Rattle.laws.proofs.Lists.{All-map, All-append}
use Rattle.definition.specs.Rule.{Rule}
use Rattle.definition.specs.Point.{replaces, after, list_at}
use Rattle.definition.specs.Lists.{indexes_from, indexes_at}
use Rattle.definition.specs.Lookup.{state_at}
use Rattle.definition.proofs.Points.{times_covered, indexes-next, indexes-rules}
use Rattle.codes.specs.Number.{closed_number}
use Rattle.tables.specs.Rules.{rule_at}
use Rattle.plain_lists.proofs.Covering.{ranges-there}
use Rattle.std.specs.Prelude.{Option, Some, None}
use Rattle.state_at.specs.Found.{looked, onward, over_rule, over_list}
use Rattle.state_at.proofs.Meaning.{rule-there, rules-answered}
use Rattle.point_state.specs.Point.{covers_point, after_rule, RuleThere, PointRules}
use Rattle.point_state.proofs.Covered.{rules-once, covers-times}

-- ## What comes next
onward-again : (r : Option ℕ) (f g : ℕ → Option ℕ) → onward r (λ n. onward (f n) g) ≡ onward (onward r f) g
onward-again (Some n) f g = refl
onward-again None f g = refl

onward-end : (r : Option ℕ) → onward r (λ n. Some n) ≡ r
onward-end (Some n) = refl
onward-end None = refl

module _ (states counts spans : List ℕ) (m : ℕ) where
  -- ## Ways out
  -- a rule alone; at the end of a list; and where the list before is unsettled
  module _ (rule : ℕ) (replacing : Bool) (before : Option ℕ) where
    pub rule-alone : replacing ≡ true → (r : Option ℕ) → r ≡ over_rule states counts spans m closed_number rule → r ≡ after_rule states counts spans m rule replacing before
    unfolding after_rule
    rule-alone t r e = rw t e

    pub rule-ended : replacing ≡ false → (shown : ℕ) → before ≡ Some shown → (r : Option ℕ) → r ≡ over_rule states counts spans m shown rule
        → r ≡ after_rule states counts spans m rule replacing before
    unfolding after_rule
    rule-ended f shown b r e = rw (f, b) e

    pub rule-unsettled : replacing ≡ false → before ≡ None → None ≡ after_rule states counts spans m rule replacing before
    unfolding after_rule
    rule-unsettled f b = rw (f, b)

  -- ## Lists
  over-append : (shown : ℕ) (ks js : List ℕ) → over_list states counts spans m shown (ks ++ js) ≡ onward (over_list states counts spans m shown ks) (λ n. over_list states counts spans m n js)
  unfolding over_list
  over-append shown [] js = refl
  over-append shown (k ∷ ks) js =
      ap (onward (over_rule states counts spans m shown k)) (λ i n. over-append n ks js i)
      ∙ onward-again (over_rule states counts spans m shown k) (λ n. over_list states counts spans m n ks) (λ n. over_list states counts spans m n js)

  over-one : (shown k : ℕ) → over_list states counts spans m shown (k ∷ []) ≡ over_rule states counts spans m shown k
  unfolding over_list
  over-one shown k = onward-end (over_rule states counts spans m shown k)

  -- a rule that covers the point n times, at most once
  rule-put : (k n : ℕ) (replacing covered : Bool) (l : List ℕ) → n ≤ 1 → covered ≡ not (eqb n 0)
      → cond covered (after_rule states counts spans m k replacing (over_list states counts spans m closed_number l)) (over_list states counts spans m closed_number l)
      ≡ over_list states counts spans m closed_number (after replacing k n l)
  unfolding after after_rule
  rule-put k zero true covered l h e = rw e
  rule-put k zero false covered l h e = rw e (ap (over_list states counts spans m closed_number) (sym (append-nil l)))
  rule-put k (suc zero) true covered l h e = rw e (sym (over-one closed_number k))
  rule-put k (suc zero) false covered l h e =
      rw e (ap (onward (over_list states counts spans m closed_number l)) (λ i n. sym (over-one n k) i) ∙ sym (over-append closed_number l (k ∷ [])))
  rule-put k (suc (suc n)) replacing covered l h e = absurd (omega arith)

-- a rule's number put to a list of lower ones
put_low : (k n : ℕ) (replacing : Bool) (l : List ℕ) → n ≤ 1 → All (λ j. j < k) l → All (λ j. j < suc k) (after replacing k n l)
unfolding after
put_low k n replacing l h low = go n h replacing
  where
    more : All (λ j. j < suc k) l
    more = All-map (λ j g. omega arith) l low

    go : (n : ℕ) → n ≤ 1 → (b : Bool) → All (λ j. j < suc k) (after b k n l)
    go zero g true = more
    go zero g false = subst (All (λ j. j < suc k)) (sym (append-nil l)) more
    go (suc zero) g true = (omega arith, tt)
    go (suc zero) g false = All-append (λ j. j < suc k) l (k ∷ []) more (omega arith, tt)
    go (suc (suc n)) g b = absurd (omega arith)

-- ## Rules in tables
module _ (states counts spans replacing range_counts ranges : List ℕ) (rs : List Rule) (given : PointRules states counts spans replacing range_counts ranges rs) (p : List ℕ) where
  many : length states ≡ length rs
  many = given.times.all-states

  pub each-there : (k : ℕ) → k < length states → RuleThere states counts spans replacing range_counts ranges k
  each-there k h = record {
    times-there = rule-there states counts spans rs given.times k (omega (arith, many));
    ranges-there = ranges-there range_counts ranges (length states) rs given.days k h;
    replacing-there = omega (arith, many, given.noted.all-replacing);
    few-rules = omega (arith, given.days.few-rules);
  }

  once : (k : ℕ) → k < length rs → times_covered (rule_at rs k) p ≤ 1
  once = rules-once rs given.days.fits given.apart p

  indexes-low : (k : ℕ) → k ≤ length rs → All (λ j. j < k) (indexes_at (take k rs) p)
  unfolding indexes_from
  indexes-low zero h = tt
  indexes-low (suc k) h =
      subst (All (λ j. j < suc k)) (sym (indexes-next rs k p h))
      (put_low k (times_covered (rule_at rs k) p) (replaces (rule_at rs k)) (indexes_at (take k rs) p) (once k h) (indexes-low k (omega arith)))

  -- the state by the point's list after the first k rules
  abbrev pub StateBy : ℕ → ℕ → Option ℕ → Type 0
  StateBy m k found = found ≡ over_list states counts spans m closed_number (indexes_at (take k rs) p)

  pub state-start : (m : ℕ) → StateBy m 0 (Some closed_number)
  unfolding over_list indexes_from
  state-start m = refl

  -- ONE RULE MORE
  pub state-next : (m k : ℕ) → k < length states → (found : Option ℕ) → StateBy m k found
      → StateBy m (k + 1)
      (cond (covers_point range_counts ranges k 4 p) (after_rule states counts spans m k (eqb (get_or replacing k 0) 1) found) found)
  state-next m k h found e =
      let here : k < length rs = omega (arith, many) in
      let times = times_covered (rule_at rs k) p in
      ap (λ f. cond (covers_point range_counts ranges k 4 p) (after_rule states counts spans m k (eqb (get_or replacing k 0) 1) f) f) e
      ∙ rule-put states counts spans m k times (eqb (get_or replacing k 0) 1) (covers_point range_counts ranges k 4 p) (indexes_at (take k rs) p) (once k here) (covers-times range_counts ranges (length states) rs given.days k h p)
      ∙ ap (λ b. over_list states counts spans m closed_number (after b k times (indexes_at (take k rs) p))) (ap (λ v. eqb v 1) (given.noted.noted k here) ∙ bit-flag (replaces (rule_at rs k)))
      ∙ ap (over_list states counts spans m closed_number) (sym (indexes-next rs k p here))
      ∙ ap (λ n. over_list states counts spans m closed_number (indexes_at (take n rs) p)) (let z : suc k ≡ k + 1 = omega arith in z)

  -- AFTER THE LAST RULE
  pub state-end : (m k : ℕ) → length states ≤ k → k ≤ length states → (found : Option ℕ) → StateBy m k found → looked found ≡ state_at [] (list_at rs p) m
  state-end m k l h found e =
      let all : k ≡ length rs = omega (arith, many) in
      ap looked (e ∙ ap (λ n. over_list states counts spans m closed_number (indexes_at (take n rs) p)) all)
      ∙ rules-answered states counts spans rs given.times m (indexes_at (take (length rs) rs) p) (indexes-low (length rs) (omega arith))
      ∙ ap (λ l. state_at [] l m) (indexes-rules rs (length rs) p (omega arith) ∙ ap (λ qs. list_at qs p) (take-length rs))
