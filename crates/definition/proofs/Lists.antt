-- 6 AND 14, RULE BY RULE: the first rule after which some list is too long or the lists are too many is refused, by 6 where both are; and where none
-- is, every list after every rule keeps the limit. Rests on the definition alone.
use mathlib.Core.Path.{◌≡◌, refl, sym, ap, ◌∙◌, subst}
use mathlib.Core.Bool.{Bool, true, false, ◌||◌, cond, true≢false}
use mathlib.Core.List.{List, [], ◌∷◌}
use mathlib.Core.Option.{Option, some, none}
use mathlib.Core.Logic.{◌⊎◌, inl, inr}
use Prim.Native.Nat.{ℕ, suc, ◌≤◌, ◌<◌}
use native.Mathlib.Omega.{arith}
use lib.Dec.{eqb, ltb}
use lib.ListN.{length, take}
use lib.Seq.{take-length}
use borrow.Author.Tests.{ltb-false}
use Rattle.laws.specs.Lists.{from, only_if, Mem, OnNone}
use Rattle.laws.proofs.Flags.{split-or}
use Rattle.laws.proofs.Lists.{first_of-none}
use Rattle.laws.proofs.Numbers.{order, Mem-from, first-at, first-none, FirstBelow, first-cases}
use Rattle.laws.proofs.Tests.{exact-eqb}
use Rattle.grid.specs.Group.{inside, somewhere}
use Rattle.grid.proofs.Value.{somewhere-none}
use Rattle.definition.specs.Field.{long_list, many_lists}
use Rattle.definition.specs.Rule.{Rule}
use Rattle.definition.specs.Sheet.{Limits}
use Rattle.definition.specs.Point.{points, list_from, list_at}
use Rattle.definition.specs.Lists.{list_count, too_long, refused_at, first_refused}

module _ (limits : Limits) (rs : List Rule) where
  -- after rule k some list is too long; there are too many; neither
  abbrev pub long : ℕ → Bool
  long k = somewhere points (too_long limits.entries rs k)

  abbrev pub many : ℕ → Bool
  many k = ltb limits.lists (list_count rs (suc k))

  abbrev pub Passes : ℕ → Type 0
  Passes k = (long k ≡ false) × (many k ≡ false)

  abbrev said : ℕ → Option (ℕ × ℕ)
  said k = refused_at limits k (long k) (list_count rs (suc k))

  pass-none : (k : ℕ) → Passes k → said k ≡ none
  pass-none k h = rw (h.0, h.1)

  pub all_pass : ((k : ℕ) → k < length rs → Passes k) → first_refused limits rs ≡ none
  unfolding first_refused
  all_pass h = first-none said 0 (length rs) (λ j a b. pass-none j (h j (omega arith)))

  -- the first rule that doesn't pass
  module _ (k : ℕ) (here : k < length rs) (before : (j : ℕ) → j < k → Passes j) where
    pub first-long : long k ≡ true → first_refused limits rs ≡ some (long_list, k)
    unfolding first_refused
    first-long e = first-at said (long_list, k) k 0 (length rs) (omega arith) (omega arith) (λ j a b. pass-none j (before j b)) (rw e)

    pub first-many : long k ≡ false → many k ≡ true → first_refused limits rs ≡ some (many_lists, k)
    unfolding first_refused
    first-many e f = first-at said (many_lists, k) k 0 (length rs) (omega arith) (omega arith) (λ j a b. pass-none j (before j b)) (rw (e, f))

  -- one of the three
  abbrev pub RefusedCases : Type 0
  RefusedCases = ((k : ℕ) × (k < length rs) × (long k ≡ true) × ((j : ℕ) → j < k → Passes j))
      ⊎ (((k : ℕ) × (k < length rs) × (long k ≡ false) × (many k ≡ true) × ((j : ℕ) → j < k → Passes j)) ⊎ ((k : ℕ) → k < length rs → Passes k))

  pub refused-cases : RefusedCases
  refused-cases = go (first-cases fails (length rs))
    where
      fails : ℕ → Bool
      fails k = long k || many k

      passes : (k : ℕ) → fails k ≡ false → Passes k
      passes k e = split-or (long k) (many k) e

      at : (k : ℕ) → k < length rs → ((j : ℕ) → j < k → Passes j) → (b c : Bool) → long k ≡ b → many k ≡ c → b || c ≡ true → RefusedCases
      at k l h true c e f t = inl (k, l, e, h)
      at k l h false true e f t = inr (inl (k, l, e, f, h))
      at k l h false false e f t = absurd (true≢false (sym t))

      go : FirstBelow fails (length rs) ⊎ ((j : ℕ) → j < length rs → fails j ≡ false) → RefusedCases
      go (inl (k, l, t, h)) = at k l (λ j m. passes j (h j m)) (long k) (many k) refl refl t
      go (inr h) = inr (inr (λ j l. passes j (h j l)))

  -- and where none is refused
  pub none-refused : first_refused limits rs ≡ none → (k : ℕ) → k < length rs → Passes k
  unfolding first_refused
  none-refused h k l =
      either (long k) (many k)
      (subst (OnNone ((j : ℕ) → Mem j (from 0 (length rs)) → said j ≡ none)) h (first_of-none said (from 0 (length rs))) k (Mem-from k 0 (length rs) (omega arith) (omega arith)))
    where
      either : (a b : Bool) → cond {A = Option (ℕ × ℕ)} a (some (long_list, k)) (only_if b (many_lists, k)) ≡ none → (a ≡ false) × (b ≡ false)
      either true b n = let z : ◌≡◌ {A = ℕ} 0 1 = cc in absurd (omega arith)
      either false true n = let z : ◌≡◌ {A = ℕ} 0 1 = cc in absurd (omega arith)
      either false false n = (refl, refl)

  -- then every point's list keeps the limit, after the last rule as well
  pub short-lists : first_refused limits rs ≡ none → (p : List ℕ) → inside eqb points p ≡ true → length (list_at rs p) ≤ limits.entries
  unfolding too_long
  short-lists h p i = go rs refl
    where
      go : (qs : List Rule) → rs ≡ qs → length (list_at rs p) ≤ limits.entries
      go [] e = subst (λ l. length (list_at l p) ≤ limits.entries) (sym e) (unfold list_from in omega arith)
      go (q ∷ qs) e =
          let n : length rs ≡ suc (length qs) = ap length e in
          let k = (none-refused h (length qs) (omega arith)).0 in
          let t : ltb limits.entries (length (list_at (take (suc (length qs)) rs) p)) ≡ false = somewhere-none exact-eqb points (too_long limits.entries rs (length qs)) k p i in
          let w : take (suc (length qs)) rs ≡ rs = ap (λ m. take m rs) (sym n) ∙ take-length rs in
          ltb-false limits.entries (length (list_at rs p)) (ap (λ l. ltb limits.entries (length (list_at l p))) (sym w) ∙ t)

-- ## Another limit of lists
-- it changes nothing but 14: where neither gives it, both refuse the same rule by 6, or none
module _ (limits others : Limits) (rs : List Rule) (same : limits.entries ≡ others.entries) where
  long_same : (k : ℕ) → long limits rs k ≡ long others rs k
  long_same k = ap (λ n. somewhere points (too_long n rs k)) same

  pub refused-alike : ((k : ℕ) → first_refused limits rs ≡ some (many_lists, k) → ⊥) → ((k : ℕ) → first_refused others rs ≡ some (many_lists, k) → ⊥)
      → first_refused limits rs ≡ first_refused others rs
  refused-alike one two = go (refused-cases limits rs) (refused-cases others rs)
    where
      clash : (k : ℕ) → long limits rs k ≡ true → long others rs k ≡ false → ⊥
      clash k e f = true≢false (sym e ∙ long_same k ∙ f)

      -- the first list that is too long is the same one
      first : (j k : ℕ) → long limits rs j ≡ true → long others rs k ≡ true → ((i : ℕ) → i < j → Passes limits rs i) → ((i : ℕ) → i < k → Passes others rs i) → j ≡ k
      first j k e f h g = pick (order j k)
        where
          pick : (j < k) ⊎ ((j ≡ k) ⊎ (k < j)) → j ≡ k
          pick (inl l) = absurd (clash j e (g j l).0)
          pick (inr (inl q)) = q
          pick (inr (inr l)) = absurd (true≢false (sym f ∙ sym (long_same k) ∙ (h k l).0))

      go : RefusedCases limits rs → RefusedCases others rs → first_refused limits rs ≡ first_refused others rs
      go (inr (inl (k, l, e, f, h))) b = absurd (one k (first-many limits rs k l h e f))
      go (inl a) (inr (inl (k, l, e, f, h))) = absurd (two k (first-many others rs k l h e f))
      go (inr (inr a)) (inr (inl (k, l, e, f, h))) = absurd (two k (first-many others rs k l h e f))
      go (inl (j, l, e, h)) (inl (k, m, f, g)) = first-long limits rs j l h e ∙ ap (λ i. some (long_list, i)) (first j k e f h g) ∙ sym (first-long others rs k m g f)
      go (inl (j, l, e, h)) (inr (inr g)) = absurd (clash j e (g j l).0)
      go (inr (inr h)) (inl (k, m, f, g)) = absurd (true≢false (sym f ∙ sym (long_same k) ∙ (h k m).0))
      go (inr (inr h)) (inr (inr g)) = all_pass limits rs h ∙ sym (all_pass others rs g)
