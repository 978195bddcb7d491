-- NO DAY TYPED TWICE: a rule without overlaps covers a point at most once. So the list at a point has no rule twice, its entries being rules of
-- rising index, and no more entries than there are rules. Rests on overlaps by ends.
use mathlib.Core.Path.{◌≡◌, refl, sym, ap, ap₂, ◌∙◌, subst}
use mathlib.Core.List.{List, [], ◌∷◌, ◌++◌, map, map-append, append-nil, append_assoc}
use mathlib.Core.Bool.{Bool, true, false, true≢false, cond}
use Prim.Native.Nat.{ℕ, zero, suc, ◌+◌, ◌*◌, ◌≤◌}
use native.Mathlib.Omega.{arith}
use lib.ListN.{length, get_or, length-append, get_or-append}
use lib.Seq.{get_or-append_seam}
use Rattle.laws.specs.Lists.{any_of, any_pair, count, All, Rises, InTurn}
use Rattle.laws.proofs.Flags.{split-or}
use Rattle.laws.proofs.Numbers.{rises-more, rises-last}
use Rattle.grid.specs.Cut.{Range, holds}
use Rattle.definition.specs.Rule.{Rule, no_rule}
use Rattle.definition.specs.Point.{dimensions, selector, combinations, replaces, after, list_from, list_at}
use Rattle.definition.specs.Overlap.{overlaps}
use Rattle.definition.specs.OverBoxes.{meets, overlaps_over_ends}
use Rattle.definition.proofs.Lawful.{Lawful}
use Rattle.definition.proofs.Overlap.{held-meets, overlaps-ends}

-- ## A value lies in at most one range
count_none : (x : ℕ) (r : Range) (R : List Range) → holds x r ≡ true → any_of (meets r) R ≡ false → count (holds x) R ≡ 0
unfolding count any_of
count_none x r [] h k = refl
count_none x r (q ∷ R) h k = go (holds x q) refl (split-or (meets r q) (any_of (meets r) R) k) (count_none x r R h)
  where
    go : (b : Bool) → holds x q ≡ b → (meets r q ≡ false) × (any_of (meets r) R ≡ false) → (any_of (meets r) R ≡ false → count (holds x) R ≡ 0)
        → cond (holds x q) 1 0 + count (holds x) R ≡ 0
    go true e l ih = absurd (true≢false (sym (held-meets r q x h e) ∙ l.0))
    go false e l ih = rw e (omega (arith, ih l.1))

count-once : (x : ℕ) (R : List Range) → any_pair meets R ≡ false → count (holds x) R ≤ 1
unfolding count any_pair
count-once x [] h = omega arith
count-once x (r ∷ R) h = go (holds x r) refl (split-or (any_of (meets r) R) (any_pair meets R) h) (count-once x R)
  where
    go : (b : Bool) → holds x r ≡ b → (any_of (meets r) R ≡ false) × (any_pair meets R ≡ false) → (any_pair meets R ≡ false → count (holds x) R ≤ 1)
        → cond (holds x r) 1 0 + count (holds x) R ≤ 1
    go true e l ih = rw e (omega (arith, count_none x r R e l.0))
    go false e l ih = rw e (omega (arith, ih l.1))

-- ## A rule covers a point at most once
combined-once : (Rs : List (List Range)) (p : List ℕ) → any_of (any_pair meets) Rs ≡ false → combinations Rs p ≤ 1
unfolding combinations any_of
combined-once [] p h = omega arith
combined-once (R ∷ Rs) [] h = omega arith
combined-once (R ∷ Rs) (x ∷ p) h =
    let k = split-or (any_pair meets R) (any_of (any_pair meets) Rs) h in
    product (count (holds x) R) (count-once x R k.0) (combined-once Rs p k.1)
  where
    product : (n : ℕ) → n ≤ 1 → combinations Rs p ≤ 1 → n * combinations Rs p ≤ 1
    product zero l m = omega arith
    product (suc zero) l m = omega (arith, m)
    product (suc (suc n)) l m = absurd (omega arith)

-- AT MOST ONCE
pub covers-once : (r : Rule) → Lawful r → overlaps r ≡ false → (p : List ℕ) → combinations (selector dimensions r) p ≤ 1
unfolding overlaps_over_ends
covers-once r lawful h p = combined-once (selector dimensions r) p (sym (overlaps-ends r lawful) ∙ h)

-- ## The list at a point
-- one rule more
module _ (before : List Rule) (r : Rule) where
  abbrev all : List Rule
  all = before ++ (r ∷ [])

  longer : length all ≡ suc (length before)
  longer = omega (arith, length-append before (r ∷ []))

  kept : (s : ℕ) (ks : List ℕ) → Rises s (length before) ks → map (λ k. get_or all k no_rule) ks ≡ map (λ k. get_or before k no_rule) ks
  kept s [] h = refl
  kept s (k ∷ ks) h = ap₂ ◌∷◌ (get_or-append before (r ∷ []) no_rule k h.1) (kept (suc k) ks h.2)

  stays : (l : List Rule) → InTurn no_rule before l → InTurn no_rule all l
  stays l e = (e.0, subst (λ n. Rises 0 n e.0) (sym longer) (rises-more 0 (length before) e.0 e.1), e.2 ∙ sym (kept 0 e.0 e.1))

  added : (l : List Rule) → InTurn no_rule before l → InTurn no_rule all (l ++ (r ∷ []))
  added l e = (
    e.0 ++ (length before ∷ []),
    subst (λ n. Rises 0 n (e.0 ++ (length before ∷ []))) (sym longer) (rises-last 0 (length before) e.0 (omega arith) e.1),
    ap₂ ◌++◌ (e.2 ∙ sym (kept 0 e.0 e.1)) (ap (◌∷ []) (sym (get_or-append_seam before r [] no_rule)))
        ∙ sym (map-append (λ k. get_or all k no_rule) e.0 (length before ∷ [])),
  )

  next : (l : List Rule) (n : ℕ) → n ≤ 1 → InTurn no_rule before l → InTurn no_rule all (after (replaces r) r n l)
  unfolding after
  next l n few e = go n few (replaces r) refl
    where
      go : (n : ℕ) → n ≤ 1 → (b : Bool) → replaces r ≡ b → InTurn no_rule all (after (replaces r) r n l)
      go zero m true t = rw (t, after) (stays l e)
      go zero m false t = rw (t, after) (subst (InTurn no_rule all) (sym (append-nil l)) (stays l e))
      go (suc zero) m true t = rw (t, after) (added [] ([], tt, refl))
      go (suc zero) m false t = rw (t, after) (added l e)
      go (suc (suc n)) m b t = absurd (omega arith)

turns : (p : List ℕ) (before rs l : List Rule) → All (λ r. combinations (selector dimensions r) p ≤ 1) rs → InTurn no_rule before l → InTurn no_rule (before ++ rs) (list_from l rs p)
unfolding list_from
turns p before [] l h e = subst (λ q. InTurn no_rule q l) (sym (append-nil before)) e
turns p before (r ∷ rs) l h e =
    let n = combinations (selector dimensions r) p in
    subst (λ q. InTurn no_rule q (list_from (after (replaces r) r n l) rs p)) (append_assoc before (r ∷ []) rs)
    (turns p (before ++ (r ∷ [])) rs (after (replaces r) r n l) h.1 (next before r l n h.0 e))

-- NO RULE TWICE
pub list-in-turn : (rs : List Rule) (p : List ℕ) → All (λ r. combinations (selector dimensions r) p ≤ 1) rs → InTurn no_rule rs (list_at rs p)
list-in-turn rs p h = turns p [] rs [] h ([], tt, refl)
