-- A rule over all boxes that it covers: a walk over them, in whatever order and however often, does to the store what the plain step does to the
-- map. Rests on the laws of the lists made.
use mathlib.Core.Path.{◌≡◌, refl, sym, ap, subst, ◌∙◌}
use mathlib.Core.Bool.{Bool, true, false, cond, false≢true}
use mathlib.Core.List.{List, [], ◌∷◌, ◌++◌}
use mathlib.Core.Logic.{◌⊎◌, inl, inr}
use Prim.Native.Nat.{ℕ, zero, suc, ◌+◌, ◌-◌, ◌*◌, ◌≤◌, ◌<◌}
use native.Mathlib.Omega.{arith}
use lib.Dec.{eqb, ltb, leb}
use lib.ListN.{length, get_or, length-append}
use borrow.Author.Tests.{le-ltb, le-leb, leb-true}
use Rattle.laws.specs.Lists.{any_of, All, Mem}
use Rattle.laws.proofs.Flags.{split-and, both-and, same_flag_lem}
use Rattle.laws.proofs.Tests.{exact-eqb}
use Rattle.laws.proofs.Lists.{All-map, All-append, All-Mem, Mem-any, any-Mem}
use Rattle.laws.proofs.Numbers.{at_most, any-from, from-any}
use Rattle.tables.specs.Sizes.{list_limit, list_places}
use Rattle.tables.specs.Lists.{list_of, named, shown}
use Rattle.tables.proofs.Lists.{list_length}
use Rattle.tables.proofs.Copied.{list-kept, named-kept}
use Rattle.tables.specs.Plain.{base, plain_step, overfull, some_overfull}
use Rattle.list_store.specs.Draw.{Making, Walked, Ready, Drew}
use Rattle.list_store.proofs.Counting.{count_most, count_none}
use Rattle.list_store.proofs.Making.{made_at, all_short, made-few}

-- ## The start: nothing is made yet
pub making-start : {cells lists memo : List ℕ} {rule used : ℕ} → Ready cells lists memo rule used → Making cells lists memo rule used used
making-start {memo} {used} r = record {
  made = record {
    many = r.many;
    within = r.memoed;
    grown = omega (arith, count_none (ltb used) (suc used) memo (λ k. le-ltb used (get_or memo k 0) (r.memoed k)));
    short = r.store.short;
    unfilled = λ k l h. absurd (omega (arith, r.memoed k));
    made = λ k l h. absurd (omega (arith, r.memoed k));
    origin = λ l a b. absurd (omega arith);
  };
  names = r.store.names;
  slow = omega arith;
  room = r.room;
  few = r.few;
}

-- ## What ends in a rule is no list of earlier rules, and tells what stands before it
not_earlier : (rule : ℕ) (l m : List ℕ) → All (λ r. r < rule) l → l ≡ m ++ (rule ∷ []) → ⊥
not_earlier rule l m h e = last m (subst (All (λ r. r < rule)) e h)
  where
    last : (m : List ℕ) → All (λ r. r < rule) (m ++ (rule ∷ [])) → ⊥
    last [] k = omega (arith, k.0)
    last (x ∷ m) k = last m k.1

front : List ℕ → List ℕ
front [] = []
front (x ∷ []) = []
front (x ∷ y ∷ l) = x ∷ front (y ∷ l)

front_of : (l : List ℕ) (r : ℕ) → front (l ++ (r ∷ [])) ≡ l
unfolding front
front_of [] r = refl
front_of (x ∷ []) r = refl
front_of (x ∷ y ∷ l) r = ap (x ∷◌) (front_of (y ∷ l) r)

same-front : (l m : List ℕ) (r : ℕ) → l ++ (r ∷ []) ≡ m ++ (r ∷ []) → l ≡ m
same-front l m r e = sym (front_of l r) ∙ ap front e ∙ front_of m r

-- ## The end
module _ {cells lists memo cells' lists' memo' : List ℕ} {rule : ℕ} {replaces : Bool} {used used' : ℕ} {over : Bool} {boxes : List ℕ} (r : Ready cells lists memo rule used)
    (w : Walked cells lists used false cells' lists' memo' used' over rule replaces used boxes) (same : length cells' ≡ length cells) (len : length lists' ≡ length lists)
    (inside : (box : ℕ) → Mem box boxes → box < length cells) where
  -- the walk covers a box
  abbrev covered : ℕ → Bool
  covered box = any_of (eqb box) boxes

  -- lists of before the rule are as they were
  old-list : (l : ℕ) → l < used → list_of lists' l ≡ list_of lists l
  old-list l h = list-kept lists lists' used l w.kept h (r.store.short l h)

  old-named : (number : ℕ) → number ≤ used → named lists' number ≡ named lists number
  old-named number = named-kept lists lists' used number w.kept r.store.short

  -- ### What each box shows, and the flag
  step : over ≡ false → (box : ℕ) → box < length cells → shown cells' lists' box ≡ plain_step replaces rule covered (shown cells lists) box
  unfolding plain_step shown
  step q box l = go (covered box) refl
    where
      go : (b : Bool) → covered box ≡ b → named lists' (get_or cells' box 0) ≡ cond b (base replaces (shown cells lists box) ++ (rule ∷ [])) (shown cells lists box)
      go true e = (w.shows box (r.store.names box) (All-Mem _ boxes (w.drawn q) box (any-Mem exact-eqb box boxes e))).1
      go false e =
          ap (named lists') (w.others box (λ i. false≢true (sym e ∙ Mem-any exact-eqb box boxes i))) ∙ old-named (get_or cells box 0) (r.store.names box)

  told : over ≡ some_overfull replaces covered (shown cells lists) (length cells)
  unfolding some_overfull overfull
  told = same_flag_lem over (some_overfull replaces covered (shown cells lists) (length cells)) to (back over refl)
    where
      to : over ≡ true → some_overfull replaces covered (shown cells lists) (length cells) ≡ true
      to l =
          let f = w.full refl l in
          from-any (overfull replaces covered (shown cells lists)) 0 (length cells) f.0 (omega arith) (omega (arith, inside f.0 f.1))
          (both-and (covered f.0) _ (Mem-any exact-eqb f.0 boxes f.1) (le-leb list_limit _ f.3))

      back : (b : Bool) → over ≡ b → some_overfull replaces covered (shown cells lists) (length cells) ≡ true → over ≡ true
      back true e h = e
      back false e h =
          let k = any-from (overfull replaces covered (shown cells lists)) 0 (length cells) h in
          let box = k.0 in
          let f = split-and (covered box) (leb list_limit (length (base replaces (shown cells lists box)))) k.3 in
          let s = w.shows box (r.store.names box) (All-Mem _ boxes (w.drawn e) box (any-Mem exact-eqb box boxes f.0)) in
          absurd (omega (arith, s.0, leb-true list_limit (length (base replaces (shown cells lists box))) f.1))

  -- ### The lists in use
  -- the list of a number of before is of earlier rules
  old-earlier : (k : ℕ) → k ≤ used → All (λ x. x < rule) (named lists' k)
  unfolding named
  old-earlier zero h = tt
  old-earlier (suc l) h = rw (old-list l (omega arith)) (r.earlier l (omega arith))

  old-some : (l : ℕ) → l < used → list_of lists' l ≡ [] → ⊥
  old-some l h e = omega (arith, list_length lists l, ap length (sym (old-list l h) ∙ e), r.store.some l h)

  -- numbers of before are told by their lists
  old_apart : (j k : ℕ) → j ≤ used → k ≤ used → named lists' j ≡ named lists' k → j ≡ k
  unfolding named
  old_apart zero zero a b e = refl
  old_apart zero (suc l) a b e = absurd (old-some l (omega arith) (sym e))
  old_apart (suc l) zero a b e = absurd (old-some l (omega arith) e)
  old_apart (suc l) (suc m) a b e = ap suc (r.store.apart l m (omega arith) (omega arith) (sym (old-list l (omega arith)) ∙ e ∙ old-list m (omega arith)))

  -- a place of before the rule, or one that it made
  abbrev Place : ℕ → Type 0
  Place l = (l < used) ⊎ ((k : ℕ) × (k ≤ used) × (get_or memo' k 0 ≡ suc l) × (list_of lists' l ≡ named lists' k ++ (rule ∷ [])))

  place : (l : ℕ) → l < used' → Place l
  place l h = go (at_most used l)
    where
      go : (used ≤ l) ⊎ (l < used) → Place l
      go (inl a) = inr (made_at w.making.made l a h)
      go (inr a) = inl a

  some_at : (l : ℕ) → Place l → 1 ≤ get_or lists' (l * list_places) 0
  some_at l (inl a) = omega (arith, list_length lists l, list_length lists' l, ap length (old-list l a), r.store.some l a)
  some_at l (inr q) = omega (arith, list_length lists' l, ap length q.3, length-append (named lists' q.0) (rule ∷ []))

  earlier-at : (l : ℕ) → Place l → All (λ x. x < suc rule) (list_of lists' l)
  unfolding named
  earlier-at l (inl a) = All-map (λ x k. omega arith) (list_of lists' l) (old-earlier (suc l) (omega arith))
  earlier-at l (inr q) =
      rw q.3 (All-append (λ x. x < suc rule) (named lists' q.0) (rule ∷ []) (All-map (λ x k. omega arith) (named lists' q.0) (old-earlier q.0 q.1)) (omega arith, tt))

  -- a list that the rule made is none of before
  fresh : (a : ℕ) → a < used → (k : ℕ) → list_of lists' a ≡ named lists' k ++ (rule ∷ []) → ⊥
  unfolding named
  fresh a l k e = not_earlier rule (list_of lists' a) (named lists' k) (old-earlier (suc a) (omega arith)) e

  apart-at : (a b : ℕ) → Place a → Place b → list_of lists' a ≡ list_of lists' b → a ≡ b
  unfolding named
  apart-at a b (inl l) (inl m) e = let k : suc a ≡ suc b = old_apart (suc a) (suc b) (omega arith) (omega arith) e in omega arith
  apart-at a b (inl l) (inr q) e = absurd (fresh a l q.0 (e ∙ q.3))
  apart-at a b (inr p) (inl m) e = absurd (fresh b m p.0 (sym e ∙ p.3))
  apart-at a b (inr p) (inr q) e =
      let k : p.0 ≡ q.0 = old_apart p.0 q.0 p.1 q.1 (same-front (named lists' p.0) (named lists' q.0) rule (sym p.3 ∙ e ∙ q.3)) in
      omega (arith, p.2, q.2, ap (λ j. get_or memo' j 0) k)

  few : (used' ≤ used + (used + 1)) × (used' ≤ used + length cells)
  few = (made-few w.making.made, omega (arith, w.making.slow, count_most (ltb used) cells'))

  pub drew-all : Drew cells lists cells' lists' memo' covered rule replaces used used' over
  drew-all = record {
    told = told;
    store = record {
      names = w.making.names;
      room = omega (arith, len, w.grown, r.room (used' - used) (omega (arith, few.0)) (omega (arith, few.1)));
      some = λ l h. some_at l (place l h);
      short = all_short w.making.made;
      apart = λ a b g h. apart-at a b (place a g) (place b h);
    };
    earlier = λ l h. earlier-at l (place l h);
    shows = step;
    few = few;
    memoed = w.making.made.within;
  }
