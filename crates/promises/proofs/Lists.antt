-- WHICH RULE'S LISTS ARE REFUSED FIRST: some drained rule is the first after which some point's list is too long, or none is but there are too many
-- lists; or after no rule either is so. Rests on the definition's laws of 6 and 14 rule by rule, and of how many lists there are.
use mathlib.Core.Path.{◌≡◌, refl}
use mathlib.Core.List.{List}
use mathlib.Core.Option.{none, some}
use mathlib.Core.Logic.{◌⊎◌, inl, inr}
use mathlib.Core.Bool.{Bool, true, false}
use Prim.Native.Nat.{ℕ, suc, ◌≤◌}
use native.Mathlib.Omega.{arith}
use lib.Dec.{ltb}
use lib.ListN.{length, take}
use borrow.Author.Tests.{lt-ltb, le-ltb, ltb-true, ltb-false}
use Rattle.laws.proofs.Lists.{All-map, All-map₂}
use Rattle.laws.proofs.Tests.{exact-eqb}
use Rattle.grid.specs.Group.{somewhere}
use Rattle.grid.proofs.Value.{somewhere-some, somewhere-none}
use Rattle.definition.specs.Field.{long_list, many_lists}
use Rattle.definition.specs.Rule.{Rule}
use Rattle.definition.specs.Sheet.{Limits}
use Rattle.definition.specs.Point.{points, list_at}
use Rattle.definition.specs.Lists.{distinct_lists, list_count, too_long, first_refused}
use Rattle.definition.proofs.Lists as rules
use Rattle.definition.proofs.ListCounts.{lists_after, count-named, count_most}
use Rattle.promises.specs.Conditions.{ShortAfter, LongAfter, Standing, FewAfter, ManyAfter, PassesAfter, FirstLong, FirstMany, AllPass}

-- ## How many lists stand
module _ (ds : List Rule) (n : ℕ) where
  abbrev counted : List (List ℕ)
  counted = distinct_lists (lists_after ds n)

  -- the lists that the definition counts, and any others
  pub all-counted : Standing ds n (distinct_lists (lists_after ds n))
  all-counted =
      let h = count-named ds n in
      record { different = h.0; non-empty = All-map (λ l q. q.0) counted h.1; stand = All-map (λ l q. q.1) counted h.1 }

  pub counted-most : (ls : List (List ℕ)) → Standing ds n ls → length ls ≤ list_count ds n
  counted-most ls h = count_most ds n ls h.different (All-map₂ (λ l e s. (e, s)) ls h.non-empty h.stand)

-- ## What the tests say
module _ (limit : ℕ) (ds : List Rule) (k : ℕ) where
  abbrev long : Bool
  long = somewhere points (too_long limit ds k)

  abbrev many : Bool
  many = ltb limit (list_count ds (suc k))

  is-long : long ≡ true → LongAfter limit ds k
  unfolding too_long
  is-long e = let h = somewhere-some exact-eqb points (too_long limit ds k) e in (h.0, h.1, ltb-true limit (length (list_at (take (suc k) ds) h.0)) h.2)

  is-short : long ≡ false → ShortAfter limit ds k
  unfolding too_long
  is-short e p i = ltb-false limit (length (list_at (take (suc k) ds) p)) (somewhere-none exact-eqb points (too_long limit ds k) e p i)

  long-is : LongAfter limit ds k → long ≡ true
  long-is h = go long refl
    where
      go : (b : Bool) → long ≡ b → b ≡ true
      go true e = refl
      go false e = absurd (omega (arith, h.2, is-short e h.0 h.1))

  short-is : ShortAfter limit ds k → long ≡ false
  short-is h = go long refl
    where
      go : (b : Bool) → long ≡ b → b ≡ false
      go true e = let l = is-long e in absurd (omega (arith, l.2, h l.0 l.1))
      go false e = refl

  is-many : many ≡ true → ManyAfter limit ds k
  unfolding list_count
  is-many e = (distinct_lists (lists_after ds (suc k)), all-counted ds (suc k), ltb-true limit (length (distinct_lists (lists_after ds (suc k)))) e)

  is-few : many ≡ false → FewAfter limit ds k
  is-few e ls h = omega (arith, counted-most ds (suc k) ls h, ltb-false limit (list_count ds (suc k)) e)

  many_is : ManyAfter limit ds k → many ≡ true
  many_is h = lt-ltb limit (list_count ds (suc k)) (omega (arith, h.2, counted-most ds (suc k) h.0 h.1))

  few-is : FewAfter limit ds k → many ≡ false
  unfolding list_count
  few-is h = le-ltb limit (length (distinct_lists (lists_after ds (suc k)))) (h (distinct_lists (lists_after ds (suc k))) (all-counted ds (suc k)))

-- ## The first rule
module _ (limits : Limits) (ds : List Rule) where
  passes : (k : ℕ) → rules.Passes limits ds k → PassesAfter limits ds k
  passes k h = (is-short limits.entries ds k h.0, is-few limits.lists ds k h.1)

  passed : (k : ℕ) → PassesAfter limits ds k → rules.Passes limits ds k
  passed k h = (short-is limits.entries ds k h.0, few-is limits.lists ds k h.1)

  pub first-long : (k : ℕ) → FirstLong limits ds k → first_refused limits ds ≡ some (long_list, k)
  first-long k h = rules.first-long limits ds k h.0 (λ j l. passed j (h.2 j l)) (long-is limits.entries ds k h.1)

  pub first-many : (k : ℕ) → FirstMany limits ds k → first_refused limits ds ≡ some (many_lists, k)
  first-many k h = rules.first-many limits ds k h.0 (λ j l. passed j (h.3 j l)) (short-is limits.entries ds k h.1) (many_is limits.lists ds k h.2)

  pub none-refused : AllPass limits ds → first_refused limits ds ≡ none
  none-refused h = rules.all_pass limits ds (λ k l. passed k (h k l))

  -- A FIRST ONE, by 6 or by 14, or none
  abbrev pub ListCases : Type 0
  ListCases = ((k : ℕ) × FirstLong limits ds k) ⊎ (((k : ℕ) × FirstMany limits ds k) ⊎ AllPass limits ds)

  pub list_cases : ListCases
  list_cases = go (rules.refused-cases limits ds)
    where
      go : rules.RefusedCases limits ds → ListCases
      go (inl (k, l, e, h)) = inl (k, (l, is-long limits.entries ds k e, λ j m. passes j (h j m)))
      go (inr (inl (k, l, e, f, h))) = inr (inl (k, (l, is-short limits.entries ds k e, is-many limits.lists ds k f, λ j m. passes j (h j m))))
      go (inr (inr h)) = inr (inr (λ j l. passes j (h j l)))
