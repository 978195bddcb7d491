-- The list at a point, by rules and by their indexes: after some rules and then others, and after one rule more. The indexes name the rules; and
-- points that each rule covers as often have the same lists. And an item has at most two ranges.
use mathlib.Core.Path.{◌≡◌, refl, sym, ap, ◌∙◌}
use mathlib.Core.Bool.{Bool, true, false, cond}
use mathlib.Core.List.{List, [], ◌∷◌, ◌++◌, map, map-append}
use Prim.Native.Nat.{ℕ, zero, suc, ◌+◌, ◌≤◌, ◌<◌}
use native.Mathlib.Omega.{arith}
use lib.Dec.{eqb, ltb}
use lib.ListN.{length, take, get_or, replicate, length-map}
use lib.Seq.{take-suc, length-take-le}
use Rattle.laws.specs.Lists.{All}
use Rattle.grid.specs.Cut.{Range}
use Rattle.definition.specs.Rule.{Rule, no_rule}
use Rattle.definition.specs.Range.{Ends, split}
use Rattle.definition.specs.Point.{dimensions, selector, combinations, replaces, after, list_from, list_at}
use Rattle.definition.specs.Lists.{indexes_from, indexes_at}

abbrev pub times_covered : Rule → List ℕ → ℕ
times_covered r p = combinations (selector dimensions r) p

-- ## One rule more
pub list-append : (l rs qs : List Rule) (p : List ℕ) → list_from l (rs ++ qs) p ≡ list_from (list_from l rs p) qs p
unfolding list_from
list-append l [] qs p = refl
list-append l (r ∷ rs) qs p = list-append (after (replaces r) r (times_covered r p) l) rs qs p

indexes-append : (k : ℕ) (l : List ℕ) (rs qs : List Rule) (p : List ℕ) → indexes_from k l (rs ++ qs) p ≡ indexes_from (k + length rs) (indexes_from k l rs p) qs p
unfolding indexes_from
indexes-append k l [] qs p = ap (λ n. indexes_from n l qs p) (let z : k ≡ k + 0 = omega arith in z)
indexes-append k l (r ∷ rs) qs p =
    let l' = after (replaces r) k (times_covered r p) l in
    indexes-append (suc k) l' rs qs p ∙ ap (λ n. indexes_from n (indexes_from (suc k) l' rs p) qs p) (let z : suc k + length rs ≡ k + suc (length rs) = omega arith in z)

module _ (rs : List Rule) (k : ℕ) (p : List ℕ) (h : k < length rs) where
  abbrev next : Rule
  next = get_or rs k no_rule

  pub list-next : list_at (take (suc k) rs) p ≡ after (replaces next) next (times_covered next p) (list_at (take k rs) p)
  unfolding list_from
  list-next = ap (λ z. list_from [] z p) (take-suc rs k no_rule h) ∙ list-append [] (take k rs) (next ∷ []) p

  -- THE STEP OF THE PLAIN MAP from points to lists of indexes
  pub indexes-next : indexes_at (take (suc k) rs) p ≡ after (replaces next) k (times_covered next p) (indexes_at (take k rs) p)
  unfolding indexes_from
  indexes-next =
      ap (λ z. indexes_from 0 [] z p) (take-suc rs k no_rule h) ∙ indexes-append 0 [] (take k rs) (next ∷ []) p
      ∙ ap (λ n. indexes_from n (indexes_at (take k rs) p) (next ∷ []) p) (let z : 0 + length (take k rs) ≡ k = omega (arith, length-take-le k rs (omega arith)) in z)

-- ## Indexes name rules
after_map : {A B : Type 0} (h : A → B) (replacing : Bool) (x : A) (n : ℕ) (l : List A) → map h (after replacing x n l) ≡ after replacing (h x) n (map h l)
unfolding after
after_map h true x n l = go (eqb n 0)
  where
    go : (b : Bool) → map h (cond b l (x ∷ [])) ≡ cond b (map h l) (h x ∷ [])
    go true = refl
    go false = refl
after_map h false x n l = map-append h l (replicate n x) ∙ ap (map h l ++◌) (go n)
  where
    go : (m : ℕ) → map h (replicate m x) ≡ replicate m (h x)
    go zero = refl
    go (suc m) = ap (h x ∷◌) (go m)

pub indexes-rules : (rs : List Rule) (k : ℕ) (p : List ℕ) → k ≤ length rs → map (λ j. get_or rs j no_rule) (indexes_at (take k rs) p) ≡ list_at (take k rs) p
unfolding indexes_from list_from
indexes-rules rs zero p h = refl
indexes-rules rs (suc k) p h =
    let r = get_or rs k no_rule in
    ap (map (λ j. get_or rs j no_rule)) (indexes-next rs k p h) ∙ after_map (λ j. get_or rs j no_rule) (replaces r) k (times_covered r p) (indexes_at (take k rs) p)
    ∙ ap (after (replaces r) r (times_covered r p)) (indexes-rules rs k p (omega arith)) ∙ sym (list-next rs k p h)

pub indexes-length : (rs : List Rule) (k : ℕ) (p : List ℕ) → k ≤ length rs → length (indexes_at (take k rs) p) ≡ length (list_at (take k rs) p)
indexes-length rs k p h = sym (length-map (indexes_at (take k rs) p) (λ j. get_or rs j no_rule)) ∙ ap length (indexes-rules rs k p h)

-- ## Points that each rule covers as often
abbrev pub Alike : List Rule → List ℕ → List ℕ → Type 0
Alike rs p q = All (λ r. times_covered r p ≡ times_covered r q) rs

pub list-alike : (l rs : List Rule) (p q : List ℕ) → Alike rs p q → list_from l rs p ≡ list_from l rs q
unfolding list_from
list-alike l [] p q h = refl
list-alike l (r ∷ rs) p q h =
    ap (λ n. list_from (after (replaces r) r n l) rs p) h.0 ∙ list-alike (after (replaces r) r (times_covered r q) l) rs p q h.1

pub indexes-alike : (k : ℕ) (l : List ℕ) (rs : List Rule) (p q : List ℕ) → Alike rs p q → indexes_from k l rs p ≡ indexes_from k l rs q
unfolding indexes_from
indexes-alike k l [] p q h = refl
indexes-alike k l (r ∷ rs) p q h =
    ap (λ n. indexes_from (suc k) (after (replaces r) k n l) rs p) h.0 ∙ indexes-alike (suc k) (after (replaces r) k (times_covered r q) l) rs p q h.1

-- ## Ranges

pub split-few : (b : Range) (e : Ends) → length (split b e) ≤ 2
unfolding split
split-few b e = go (ltb e.0 (suc e.1)) refl
  where
    go : (t : Bool) → ltb e.0 (suc e.1) ≡ t → length (split b e) ≤ 2
    go true q = rw (q, split) (omega arith)
    go false q = rw (q, split) (omega arith)
