-- The store after reclaiming. Rests on the laws of marks and of moved lists, and on those of distinct elements.
use mathlib.Core.Path.{◌≡◌, refl, sym, ap, ◌∙◌}
use mathlib.Core.Bool.{true, false≢true}
use mathlib.Core.List.{List, [], ◌∷◌, map}
use mathlib.Core.Logic.{◌⊎◌, inl, inr}
use Prim.Native.Nat.{ℕ, zero, suc, ◌*◌, ◌≤◌, ◌<◌}
use native.Mathlib.Omega.{arith}
use lib.Dec.{eqb}
use lib.ListN.{length, get_or, set, get_or-eq_default}
use lib.Seq.{get_or-set_same, get_or-set_other}
use Rattle.laws.specs.Lists.{from, keep, distinct, filled}
use Rattle.laws.specs.Tests.{same_list}
use Rattle.laws.proofs.Numbers.{at_most}
use Rattle.laws.proofs.Tests.{exact-list, exact-eqb}
use Rattle.laws.proofs.Distinct.{distinct-places}
use Rattle.tables.specs.Sizes.{list_places}
use Rattle.tables.specs.Lists.{list_of, named, shown, Store, Renamed}
use Rattle.tables.proofs.Lists.{list_length}
use Rattle.list_reclaim.specs.Reclaim.{Marked, Moved, Reclaimed}
use Rattle.list_reclaim.proofs.Moving.{moved-list}

filled-some : (l : List ℕ) → 1 ≤ length l → filled l ≡ true
filled-some [] h = absurd (omega arith)
filled-some (x ∷ l) h = refl

-- a list that a store shows stands at one of its places, unless it is empty
pub shown-place : (cells lists : List ℕ) (used box : ℕ) → Store cells lists used → filled (shown cells lists box) ≡ true → (p : ℕ) × (p < used) × (shown cells lists box ≡ list_of lists p)
unfolding shown named
shown-place cells lists used box st h = go (get_or cells box 0) (st.names box) h
  where
    go : (number : ℕ) → number ≤ used → filled (named lists number) ≡ true → (p : ℕ) × (p < used) × (named lists number ≡ list_of lists p)
    go zero l h = absurd (false≢true h)
    go (suc p) l h = (p, omega arith, refl)

module _ (cells lists memo₁ memo₂ cells' lists' memo₃ memo' : List ℕ) (used kept : ℕ) (st : Store cells lists used) (many : used < length memo₂)
    (clear : (k : ℕ) → get_or memo₁ k 0 ≡ 0) (mark : Marked cells memo₁ memo₂ (length cells)) (move : Moved lists (set memo₂ 0 0) lists' memo₃ used kept)
    (rename : Renamed cells memo₃ cells' (length cells)) (same : length cells' ≡ length cells) (len : length lists' ≡ length lists) (clear' : (k : ℕ) → get_or memo' k 0 ≡ 0) where
  mark-at : (l : ℕ) → get_or (set memo₂ 0 0) (suc l) 0 ≡ get_or memo₂ (suc l) 0
  mark-at l = get_or-set_other memo₂ 0 (suc l) 0 0 (omega arith)

  -- a box's new number names the list that its old one named
  anew : (box : ℕ) → box < length cells → (get_or cells' box 0 ≤ kept) × (named lists' (get_or cells' box 0) ≡ named lists (get_or cells box 0))
  unfolding named
  anew box h = rw (rename.anew box h) (go (get_or cells box 0) refl)
    where
      go : (number : ℕ) → get_or cells box 0 ≡ number → (get_or memo₃ number 0 ≤ kept) × (named lists' (get_or memo₃ number 0) ≡ named lists number)
      go zero e = let z : get_or memo₃ 0 0 ≡ 0 = move.first ∙ get_or-set_same memo₂ 0 0 0 (omega arith) in (omega arith, ap (named lists') z)
      go (suc l) e =
          let q = move.numbered l (omega (arith, st.names box)) (mark-at l ∙ ap (λ k. get_or memo₂ k 0) (sym e) ∙ mark.yes box h) in
          (omega (arith, q.1, q.2), ap (named lists') q.2 ∙ q.3)

  shows : (box : ℕ) → box < length cells → shown cells' lists' box ≡ shown cells lists box
  unfolding shown
  shows box h = (anew box h).1

  names : (box : ℕ) → get_or cells' box 0 ≤ kept
  names box = go (at_most (length cells) box)
    where
      go : (length cells ≤ box) ⊎ (box < length cells) → get_or cells' box 0 ≤ kept
      go (inl h) = let e : get_or cells' box 0 ≡ 0 = get_or-eq_default cells' 0 (omega arith) in omega arith
      go (inr h) = (anew box h).0

  origin : (p : ℕ) → p < kept → (l : ℕ) × (l < used) × (get_or (set memo₂ 0 0) (suc l) 0 ≡ 1) × (get_or memo₃ (suc l) 0 ≡ suc p) × (list_of lists' p ≡ list_of lists l)
  origin = moved-list lists (set memo₂ 0 0) lists' memo₃ used kept move

  count_of : (p : ℕ) (h : p < kept) → get_or lists' (p * list_places) 0 ≡ get_or lists ((origin p h).0 * list_places) 0
  count_of p h = sym (list_length lists' p) ∙ ap length (origin p h).4 ∙ list_length lists (origin p h).0

  held : (p : ℕ) → p < kept → (box : ℕ) × (box < length cells) × (get_or cells' box 0 ≡ suc p)
  held p h =
      let o = origin p h in
      let q = mark.only (suc o.0) (λ z. omega (arith, z, sym (mark-at o.0) ∙ o.2, clear (suc o.0))) in
      (q.0, q.1, rename.anew q.0 q.1 ∙ ap (λ k. get_or memo₃ k 0) q.2 ∙ o.3)

  store : Store cells' lists' kept
  store = record {
    names = names;
    room = omega (arith, move.down, st.room);
    some = λ p h. omega (arith, count_of p h, st.some (origin p h).0 (origin p h).1);
    short = λ p h. omega (arith, count_of p h, st.short (origin p h).0 (origin p h).1);
    apart = λ a b h k e.
        let p = origin a h in
        let q = origin b k in
        let l : p.0 ≡ q.0 = st.apart p.0 q.0 p.1 q.1 (sym p.4 ∙ e ∙ q.4) in
        omega (arith, p.3, q.3, ap (λ j. get_or memo₃ (suc j) 0) l);
  }

  counted : kept ≡ length (distinct (same_list eqb) (keep filled (map (shown cells lists) (from 0 (length cells)))))
  unfolding shown named
  counted = distinct-places (exact-list exact-eqb) filled (shown cells lists) (list_of lists') (length cells) kept
      (λ box h e. let q = shown-place cells' lists' kept box store (rw (shows box h) e) in (q.0, q.1, sym (shows box h) ∙ q.2))
      (λ p h. filled-some (list_of lists' p) (omega (arith, list_length lists' p, store.some p h)))
      (λ p h. let q = held p h in (q.0, q.1, sym (shows q.0 q.1) ∙ ap (named lists') q.2)) store.apart

  pub reclaimed : Reclaimed cells lists cells' lists' memo' used kept
  reclaimed = record {
    few = move.down;
    store = store;
    shows = shows;
    there = λ p h. let o = origin p h in (o.0, o.1, o.4);
    held = held;
    counted = counted;
    memoed = clear';
  }
