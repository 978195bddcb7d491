-- HOW MANY LISTS: as many as different non-empty lists can be named that stand at points, and no more. A rule that covers each point at most once makes
-- at most one new list for each list before it and one for the empty list. Rests on the values of all points and on one rule more.
use mathlib.Core.Path.{◌≡◌, refl, sym, ap, ◌∙◌, subst}
use mathlib.Core.Bool.{Bool, true, false, true≢false}
use mathlib.Core.List.{List, [], ◌∷◌, ◌++◌, map, append-nil}
use mathlib.Core.Logic.{◌⊎◌, inl, inr}
use Prim.Native.Nat.{ℕ, zero, suc, ◌≤◌, ◌<◌}
use native.Mathlib.Omega.{arith}
use lib.Dec.{eqb}
use lib.ListN.{length, take, get_or, length-map}
use Rattle.laws.specs.Lists.{keep, filled, All, Distinct, Mem}
use Rattle.laws.specs.Tests.{Exact, same_list}
use Rattle.laws.proofs.Lists.{All-map, Mem-keep, Mem-All, Mem-map}
use Rattle.laws.proofs.Tests.{exact-eqb, exact-list}
use Rattle.laws.proofs.Distinct.{kept-all, distinct-all, distinct_apart, distinct-has, distinct-count}
use Rattle.grid.specs.Group.{points_of, inside}
use Rattle.grid.proofs.Values.{value-point, point-value}
use Rattle.definition.specs.Rule.{Rule, no_rule}
use Rattle.definition.specs.Point.{points, replaces, after}
use Rattle.definition.specs.Lists.{indexes_at, distinct_lists, list_count}
use Rattle.definition.proofs.Points.{times_covered, indexes-next}

exact-lists : Exact (same_list eqb)
exact-lists = exact-list exact-eqb

-- the lists at all points after the first n rules
abbrev pub lists_after : List Rule → ℕ → List (List ℕ)
lists_after rs n = map (indexes_at (take n rs)) (points_of points)

-- a list stands at a point
abbrev pub StandsAt : List Rule → ℕ → List ℕ → Type 0
StandsAt rs n l = (p : List ℕ) × (inside eqb points p ≡ true) × (l ≡ indexes_at (take n rs) p)

filled-not : (l : List ℕ) → filled l ≡ true → l ≡ [] → ⊥
filled-not l h e = true≢false (sym h ∙ ap filled e)

not-filled : (l : List ℕ) → (l ≡ [] → ⊥) → filled l ≡ true
not-filled [] h = absurd (h refl)
not-filled (x ∷ l) h = refl

module _ (rs : List Rule) (n : ℕ) where
  stands : (l : List ℕ) → Mem l (lists_after rs n) → StandsAt rs n l
  stands l m = value-point exact-eqb exact-lists points (indexes_at (take n rs)) l m

  counted : (l : List ℕ) → (l ≡ [] → ⊥) → StandsAt rs n l → Mem l (distinct_lists (lists_after rs n))
  counted l h (p, i, e) =
      distinct-has exact-lists l (keep filled (lists_after rs n))
      (Mem-keep filled l (lists_after rs n) (subst (λ k. Mem k (lists_after rs n)) (sym e) (point-value exact-eqb exact-lists points (indexes_at (take n rs)) p i)) (not-filled l h))

  -- SO MANY CAN BE NAMED, all different, none empty, each at a point
  pub count-named : Distinct (same_list eqb) (distinct_lists (lists_after rs n)) × All (λ l. (l ≡ [] → ⊥) × StandsAt rs n l) (distinct_lists (lists_after rs n))
  count-named = (
    distinct_apart exact-lists (keep filled (lists_after rs n)),
    distinct-all exact-lists _ (keep filled (lists_after rs n)) (kept-all _ filled (lists_after rs n) (Mem-All _ (lists_after rs n) (λ l m h. (filled-not l h, stands l m)))),
  )

  -- AND NO MORE
  pub count_most : (ls : List (List ℕ)) → Distinct (same_list eqb) ls → All (λ l. (l ≡ [] → ⊥) × StandsAt rs n l) ls → length ls ≤ list_count rs n
  unfolding list_count
  count_most ls d h = distinct-count exact-lists ls (distinct_lists (lists_after rs n)) d (All-map (λ l k. counted l k.0 k.1) ls h)

-- ## One rule more
module _ (rs : List Rule) (k : ℕ) (here : k < length rs) (once : (p : List ℕ) → times_covered (get_or rs k no_rule) p ≤ 1) where
  abbrev ended : List ℕ → List ℕ
  ended l = l ++ (k ∷ [])

  -- what the rule can make: of the empty list and of each list before it
  made : List (List ℕ)
  made = map ended ([] ∷ distinct_lists (lists_after rs k))

  ended-made : (l : List ℕ) → StandsAt rs k l → Mem (ended l) made
  unfolding made Mem
  ended-made [] s = inl refl
  ended-made (x ∷ l) s = inr (Mem-map ended (x ∷ l) (distinct_lists (lists_after rs k)) (counted rs k (x ∷ l) (λ e. filled-not (x ∷ l) refl e) s))

  -- a list after the rule stood before it, or was made by it
  stood-or-made : (l : List ℕ) → StandsAt rs (suc k) l → StandsAt rs k l ⊎ Mem l made
  unfolding after
  stood-or-made l (p, i, e) = go (times_covered r p) (once p) (replaces r) (e ∙ indexes-next rs k p here)
    where
      r : Rule
      r = get_or rs k no_rule

      before : List ℕ
      before = indexes_at (take k rs) p

      go : (n : ℕ) → n ≤ 1 → (b : Bool) → l ≡ after b k n before → StandsAt rs k l ⊎ Mem l made
      go zero h true q = inl (p, i, q)
      go zero h false q = inl (p, i, q ∙ append-nil before)
      go (suc zero) h true q = inr (unfold made Mem in inl q)
      go (suc zero) h false q = inr (subst (λ z. Mem z made) (sym q) (ended-made before (p, i, refl)))
      go (suc (suc n)) h b q = absurd (omega arith)

  made-many : length made ≡ suc (list_count rs k)
  unfolding made list_count
  made-many = length-map ([] ∷ distinct_lists (lists_after rs k)) ended

  -- AT MOST ONE NEW LIST for each list before the rule, and one for the empty list
  pub new-few : (ls : List (List ℕ)) → Distinct (same_list eqb) ls → All (λ l. StandsAt rs (suc k) l × (StandsAt rs k l → ⊥)) ls → length ls ≤ suc (list_count rs k)
  new-few ls d h = omega (arith, made-many, distinct-count exact-lists ls made d (All-map (λ l q. new l q.1 (stood-or-made l q.0)) ls h))
    where
      new : (l : List ℕ) → (StandsAt rs k l → ⊥) → StandsAt rs k l ⊎ Mem l made → Mem l made
      new l n (inl s) = absurd (n s)
      new l n (inr m) = m
