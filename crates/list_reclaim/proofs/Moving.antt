-- Marked lists moved down, one after the other. Rests on the laws of copied words and of the lists at places.
use mathlib.Core.Path.{◌≡◌, refl, sym, ap, ◌∙◌}
use mathlib.Core.Bool.{Bool, true, false}
use mathlib.Core.List.{List}
use Prim.Native.Nat.{ℕ, suc, ◌+◌, ◌*◌, ◌≤◌, ◌<◌}
use native.Mathlib.Omega.{arith}
use lib.Dec.{eqb}
use lib.ListN.{length, get_or, set}
use lib.Seq.{get_or-set_same, get_or-set_other}
use borrow.Author.Count.{below_more}
use borrow.Author.Tests.{eqb-true, eqb-false}
use Rattle.tables.specs.Sizes.{list_limit, list_places}
use Rattle.tables.specs.Lists.{list_of}
use Rattle.tables.specs.Copied.{Copied}
use Rattle.tables.proofs.Lists.{list_length}
use Rattle.tables.proofs.Copied.{list-words, list-kept}
use Rattle.list_reclaim.specs.Reclaim.{NewPlace, OldPlace, Moved, MovedOne}

-- words that stay where they are
pub copied-here : (words : List ℕ) (at to count : ℕ) → to ≡ at → Copied words words at to count
copied-here words at to count e = record { copied = λ k l. ap (λ i. get_or words (i + k) 0) e; low = λ i l. refl; high = λ i l. refl }

-- ## A list moved
module _ (lists memo : List ℕ) (place next number : ℕ) (n : number ≡ suc place) where
  pub moved-not : (get_or memo number 0 ≡ 1 → ⊥) → MovedOne lists memo lists memo place next next
  moved-not h = record {
    others = λ k ne. refl;
    low = λ i l. refl;
    high = λ i l. refl;
    unmarked = λ _. refl;
    marked = λ e. absurd (h (ap (λ k. get_or memo k 0) n ∙ e));
  }

  pub moved-one : (lists' : List ℕ) → next ≤ place → get_or lists (place * list_places) 0 ≤ list_limit → number < length memo → get_or memo number 0 ≡ 1
      → Copied lists lists' (place * list_places) (next * list_places) (get_or lists (place * list_places) 0 + 1)
      → MovedOne lists memo lists' (set memo number (next + 1)) place next (next + 1)
  moved-one lists' d short r e c = record {
    others = λ k ne. get_or-set_other memo number k (next + 1) 0 (λ q. ne (q ∙ n));
    low = c.low;
    high = λ i l. c.high i (omega arith);
    unmarked = λ h. absurd (h (ap (λ k. get_or memo k 0) (sym n) ∙ e));
    marked = λ _. (refl, ap (λ k. get_or (set memo number (next + 1)) k 0) (sym n) ∙ get_or-set_same memo number (next + 1) 0 r ∙ omega arith, λ k l. c.copied k (omega arith));
  }

-- ## Lists moved down
pub moved_none : (lists memo : List ℕ) → Moved lists memo lists memo 0 0
moved_none lists memo = record {
  down = omega arith;
  later = λ k l. refl;
  first = refl;
  words = λ i l. refl;
  numbered = λ l h. absurd (omega arith);
  origin = λ p h. absurd (omega arith);
}

-- the list at a place that was moved to
pub moved-list : (lists memo lists' memo' : List ℕ) (place next : ℕ) → Moved lists memo lists' memo' place next → (p : ℕ) → p < next
    → (l : ℕ) × (l < place) × (get_or memo (suc l) 0 ≡ 1) × (get_or memo' (suc l) 0 ≡ suc p) × (list_of lists' p ≡ list_of lists l)
moved-list lists memo lists' memo' place next m p h =
    let o = m.origin p h in
    let q = m.numbered o.0 o.1 o.2 in
    let e : p ≡ q.0 = omega (arith, o.3, q.2) in
    (o.0, o.1, o.2, o.3, ap (list_of lists') e ∙ q.3)

module _ (lists memo lists' memo' lists'' memo'' : List ℕ) (place next next'' : ℕ) (short : (l : ℕ) → l < place + 1 → get_or lists (l * list_places) 0 ≤ list_limit)
    (m : Moved lists memo lists' memo' place next) (s : MovedOne lists' memo' lists'' memo'' place next next'') where
  mark-now : get_or memo' (suc place) 0 ≡ get_or memo (suc place) 0
  mark-now = m.later (suc place) (omega arith)

  -- lists moved earlier stay
  stay : (p : ℕ) → p < next → list_of lists'' p ≡ list_of lists' p
  stay p h =
      let o = moved-list lists memo lists' memo' place next m p h in
      let count : get_or lists' (p * list_places) 0 ≡ get_or lists (o.0 * list_places) 0 = sym (list_length lists' p) ∙ ap length o.4 ∙ list_length lists o.0 in
      list-kept lists' lists'' next p s.low h (omega (arith, short o.0 (omega (arith, o.1))))

  -- this one moves, if it is marked
  moves : get_or memo (suc place) 0 ≡ 1 → list_of lists'' next ≡ list_of lists place
  moves e =
      list-words lists' lists'' place next (s.marked (mark-now ∙ e)).2
      ∙ list-words lists lists' place place (λ k l. m.words (place * list_places + k) (omega arith))

  module _ (grown : next ≤ next'') where
    earlier : (l : ℕ) → l < place → NewPlace lists memo lists'' memo'' next'' l
    earlier l h e = let q = m.numbered l h e in (q.0, omega (arith, q.1), s.others (suc l) (omega arith) ∙ q.2, stay q.0 q.1 ∙ q.3)

    from-earlier : (p : ℕ) → p < next → OldPlace memo memo'' (place + 1) p
    from-earlier p h = let q = m.origin p h in (q.0, omega (arith, q.1), q.2, s.others (suc q.0) (λ z. omega (arith, q.1)) ∙ q.3)

    all : next'' ≤ next + 1 → NewPlace lists memo lists'' memo'' next'' place → ((p : ℕ) → p < next'' → OldPlace memo memo'' (place + 1) p) → Moved lists memo lists'' memo'' (place + 1) next''
    all few here back = record {
      down = omega (arith, m.down);
      later = λ k l. s.others k (omega arith) ∙ m.later k (omega arith);
      first = s.others 0 (omega arith) ∙ m.first;
      words = λ i l. s.high i l ∙ m.words i (omega arith);
      numbered = below_more (NewPlace lists memo lists'' memo'' next'') place earlier here;
      origin = back;
    }

  pub moved_more : Moved lists memo lists'' memo'' (place + 1) next''
  moved_more = go (eqb (get_or memo (suc place) 0) 1) refl
    where
      go : (b : Bool) → eqb (get_or memo (suc place) 0) 1 ≡ b → Moved lists memo lists'' memo'' (place + 1) next''
      go true e =
          let h : get_or memo (suc place) 0 ≡ 1 = eqb-true (get_or memo (suc place) 0) 1 e in
          let new = s.marked (mark-now ∙ h) in
          all (omega (arith, new.0)) (omega (arith, new.0)) (λ _. (next, omega (arith, new.0), new.1, moves h))
          (λ p l. below_more (OldPlace memo memo'' (place + 1)) next (from-earlier (omega (arith, new.0))) (place, omega arith, h, new.1) p (omega (arith, new.0)))
      go false e =
          let h : get_or memo (suc place) 0 ≡ 1 → ⊥ = eqb-false (get_or memo (suc place) 0) 1 e in
          let none : next'' ≡ next = s.unmarked (λ z. h (sym mark-now ∙ z)) in
          all (omega arith) (omega arith) (λ z. absurd (h z)) (λ p l. from-earlier (omega arith) p (omega arith))
