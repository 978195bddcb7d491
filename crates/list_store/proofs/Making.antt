-- The lists that a rule makes: one for each number that it meets, so that there is room for all of them.
use mathlib.Core.Path.{◌≡◌, sym, ap, ◌∙◌}
use mathlib.Core.List.{List, [], ◌∷◌, ◌++◌}
use mathlib.Core.Logic.{◌⊎◌, inl, inr}
use Prim.Native.Nat.{ℕ, suc, ◌+◌, ◌*◌, ◌≤◌, ◌<◌}
use native.Mathlib.Omega.{arith}
use lib.Dec.{ltb}
use lib.ListN.{length, get_or, take, set, length-set, length-append}
use lib.Seq.{get_or-set_same, get_or-set_other, length-take-le, get_or-take, take-set-lt}
use borrow.Author.Count.{below_more}
use borrow.Author.Tests.{lt-ltb, le-ltb}
use Rattle.laws.specs.Lists.{count}
use Rattle.laws.proofs.Numbers.{at_most}
use Rattle.laws.proofs.Stores.{set-each}
use Rattle.tables.specs.Sizes.{list_limit, list_places}
use Rattle.tables.specs.Lists.{list_of, named, KeptBelow}
use Rattle.tables.proofs.Lists.{list_length}
use Rattle.tables.proofs.Copied.{named-kept}
use Rattle.list_store.specs.Draw.{Appended, Made}
use Rattle.list_store.proofs.Counting.{count_most, count-more}

module _ {lists memo : List ℕ} {rule before used : ℕ} (m : Made lists memo rule before used) where
  -- ## The places made
  -- the number of before that a list was made of
  pub made_at : (l : ℕ) → before ≤ l → l < used → (k : ℕ) × (k ≤ before) × (get_or memo k 0 ≡ suc l) × (list_of lists l ≡ named lists k ++ (rule ∷ []))
  unfolding named
  made_at l a b = let q = m.origin l a b in (q.0, q.1, q.2, ap (named lists) (sym q.2) ∙ m.made q.0 q.1 (omega (arith, q.2)))

  made-short : (l : ℕ) → before ≤ l → l < used → get_or lists (l * list_places) 0 ≤ list_limit
  made-short l a b =
      let q = made_at l a b in
      omega (arith, list_length lists l, ap length q.3, length-append (named lists q.0) (rule ∷ []), m.unfilled q.0 q.1 (omega (arith, q.2)))

  pub all_short : (l : ℕ) → l < used → get_or lists (l * list_places) 0 ≤ list_limit
  all_short l h = go (at_most before l)
    where
      go : (before ≤ l) ⊎ (l < before) → get_or lists (l * list_places) 0 ≤ list_limit
      go (inl a) = made-short l a h
      go (inr a) = m.short l a

  -- what a number in use names stays, whatever is written behind the places in use
  pub named-later : (after : List ℕ) → KeptBelow lists after used → (number : ℕ) → number ≤ used → named after number ≡ named lists number
  named-later after kept number h = named-kept lists after used number kept all_short h

  -- at most one list for each number of before
  pub made-few : used ≤ before + (before + 1)
  made-few = omega (arith, m.grown, count_most (ltb before) (take (suc before) memo), length-take-le (suc before) memo m.many)

  -- ## A number met for the first time
  module _ (number : ℕ) (low : number ≤ before) (old : get_or memo number 0 ≤ before) where
    met-more : count (ltb before) (take (suc before) (set memo number (used + 1))) ≡ suc (count (ltb before) (take (suc before) memo))
    met-more =
        let n : length (take (suc before) memo) ≡ suc before = length-take-le (suc before) memo m.many in
        ap (count (ltb before)) (take-set-lt (suc before) memo number (used + 1) (omega arith))
        ∙ count-more (ltb before) (take (suc before) memo) number (used + 1) (omega arith)
        (ap (ltb before) (get_or-take (suc before) memo number 0 (omega arith)) ∙ le-ltb before (get_or memo number 0) old) (lt-ltb before (used + 1) (omega (arith, m.grown)))

    -- there is a number left for its list
    pub number-left : used < before + (before + 1)
    number-left =
        omega (
          arith,
          m.grown,
          met-more,
          count_most (ltb before) (take (suc before) (set memo number (used + 1))),
          length-take-le (suc before) (set memo number (used + 1)) (omega (arith, m.many, length-set memo number (used + 1))),
        )

    module _ (lists' : List ℕ) (few : length (named lists number) < list_limit) (a : Appended lists lists' number used rule) where
      same : (k : ℕ) → k ≤ used → named lists' k ≡ named lists k
      same = named-later lists' a.kept

      grew : before ≤ used
      grew = omega (arith, m.grown)

      inside : number < length memo
      inside = omega (arith, m.many)

      -- its list is there
      pub new-list : named lists' (used + 1) ≡ named lists number ++ (rule ∷ [])
      unfolding named
      new-list = let e : used + 1 ≡ suc used = omega arith in ap (named lists') e ∙ a.ended

      old-list : (k : ℕ) → k ≤ before → named lists k ++ (rule ∷ []) ≡ named lists' k ++ (rule ∷ [])
      old-list k h = ap (◌++ (rule ∷ [])) (sym (same k (omega (arith, grew))))

      other : (k : ℕ) → (k ≡ number → ⊥) → get_or (set memo number (used + 1)) k 0 ≡ get_or memo k 0
      other k ne = get_or-set_other memo number k (used + 1) 0 ne

      pub made_more : Made lists' (set memo number (used + 1)) rule before (used + 1)
      made_more = record {
        many = omega (arith, m.many, length-set memo number (used + 1));
        within = set-each (λ k v. v ≤ used + 1) memo number (used + 1) 0 inside (omega arith) (λ k _. omega (arith, m.within k));
        grown = omega (arith, m.grown, met-more);
        short = λ l h. omega (arith, a.kept (l * list_places) (omega (arith, grew)), m.short l h);
        unfilled = λ k h l. rw (same k (omega (arith, grew))) (unfilled k h l);
        made = λ k h l. made k h l ∙ old-list k h;
        origin = λ l h k. below_more (λ l. before ≤ l → (k : ℕ) × (k ≤ before) × (get_or (set memo number (used + 1)) k 0 ≡ suc l)) used (λ l k h. origin l h k)
            (λ _. (number, low, get_or-set_same memo number (used + 1) 0 inside ∙ omega arith)) l k h;
      }
        where
          unfilled : (k : ℕ) → k ≤ before → before < get_or (set memo number (used + 1)) k 0 → length (named lists k) < list_limit
          unfilled k h l = set-each (λ k v. k ≤ before → before < v → length (named lists k) < list_limit) memo number (used + 1) 0 inside (λ _ _. few) (λ k _. m.unfilled k) k h l

          made : (k : ℕ) → k ≤ before → before < get_or (set memo number (used + 1)) k 0 → named lists' (get_or (set memo number (used + 1)) k 0) ≡ named lists k ++ (rule ∷ [])
          made k h l =
              set-each (λ k v. k ≤ before → before < v → named lists' v ≡ named lists k ++ (rule ∷ [])) memo number (used + 1) 0 inside (λ _ _. new-list)
              (λ k _ h l. same (get_or memo k 0) (m.within k) ∙ m.made k h l) k h l

          origin : (l : ℕ) → before ≤ l → l < used → (k : ℕ) × (k ≤ before) × (get_or (set memo number (used + 1)) k 0 ≡ suc l)
          origin l h k =
              let q = m.origin l h k in
              (q.0, q.1, other q.0 (λ e. let v : get_or memo number 0 ≡ suc l = ap (λ j. get_or memo j 0) (sym e) ∙ q.2 in omega arith) ∙ q.2)
