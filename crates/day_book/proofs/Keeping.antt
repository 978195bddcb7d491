-- What stands in the filled part of the book stays when a day is folded behind it; and a day that is noted there is one more that the book keeps.
use mathlib.Core.Path.{◌≡◌, refl, sym, ap, ap₂, ◌∙◌}
use mathlib.Core.Bool.{Bool, true, false}
use mathlib.Core.List.{List, ◌∷◌, ◌++◌}
use Prim.Native.Nat.{ℕ, zero, suc, ◌+◌, ◌*◌, ◌-◌, ◌≤◌, ◌<◌}
use native.Mathlib.Omega.{arith}
use lib.Dec.{eqb}
use lib.ListN.{length, get_or, set, take, drop, length-append, length-drop, length-set, get_or-append}
use lib.Seq.{get_or-take, get_or-append-add, get_or-set_same, get_or-set_other, length-take-le}
use borrow.Author.Tests.{eqb-true, eqb-false}
use Rattle.words.specs.Words.{part}
use Rattle.day_book.specs.Book.{Kept, Book, Open, Fetch}
use borrow.Rule.Slice.PartMut.{put_mid}

-- ## Words behind what is filled
module _ (book : List ℕ) (filled : ℕ) (within : filled ≤ length book) (tail rest : List ℕ) where
  abbrev later : List ℕ
  later = take filled book ++ (tail ++ rest)

  front : length (take filled book) ≡ filled
  front = length-take-le filled book within

  part-kept : (from n : ℕ) → from + n ≤ filled → part later from n ≡ part book from n
  unfolding part
  part-kept from zero h = refl
  part-kept from (suc n) h =
      ap₂ ◌∷◌ (get_or-append (take filled book) (tail ++ rest) 0 from (omega (arith, front)) ∙ get_or-take filled book from 0 (omega arith))
      (part-kept (from + 1) n (omega arith))

  tail_at : (k : ℕ) → k < length tail → get_or later (filled + k) 0 ≡ get_or tail k 0
  tail_at k l =
      ap (λ n. get_or later (n + k) 0) (sym front) ∙ get_or-append-add (take filled book) (tail ++ rest) k 0 ∙ get_or-append tail rest 0 k l

  part-behind : (k n : ℕ) → k + n ≤ length tail → part later (filled + k) n ≡ part tail k n
  unfolding part
  part-behind k zero h = refl
  part-behind k (suc n) h =
      let next : filled + k + 1 ≡ filled + (k + 1) = omega arith in
      ap₂ ◌∷◌ (tail_at k (omega arith)) (ap (λ j. part later j n) next ∙ part-behind (k + 1) n (omega arith))

  -- the day that was folded there
  pub folded-there : (count : ℕ) (w : List ℕ) → count ≤ length tail → part tail 0 count ≡ w → part later filled count ≡ w
  folded-there count w h e = let here : filled ≡ filled + 0 = omega arith in ap (λ j. part later j count) here ∙ part-behind 0 count (omega (arith, h)) ∙ e

  module _ (W : ℕ → List ℕ) (notes : List ℕ) (held : Book W notes book filled) where
    -- not noted: all is as it was
    pub still-held : Book W notes later filled
    still-held n some = record { inside = (held n some).inside; words = part-kept _ _ (held n some).inside ∙ (held n some).words }

    -- noted
    module _ (number count : ℕ) (room : 2 * number + 1 < length notes) (words : part later filled count ≡ W number) where
      abbrev noted : List ℕ
      noted = set (set notes (2 * number + 1 - 1) filled) (2 * number + 1) count

      where-noted : get_or noted (2 * number) 0 ≡ filled
      where-noted =
          let place : 2 * number + 1 - 1 ≡ 2 * number = omega arith in
          get_or-set_other (set notes (2 * number + 1 - 1) filled) (2 * number + 1) (2 * number) count 0 (λ e. omega arith)
          ∙ ap (λ j. get_or (set notes j filled) (2 * number) 0) place ∙ get_or-set_same notes (2 * number) filled 0 (omega arith)

      many-noted : get_or noted (2 * number + 1) 0 ≡ count
      many-noted =
          get_or-set_same (set notes (2 * number + 1 - 1) filled) (2 * number + 1) count 0 (omega (arith, length-set notes (2 * number + 1 - 1) filled))

      other-noted : (j : ℕ) → (j ≡ 2 * number → ⊥) → (j ≡ 2 * number + 1 → ⊥) → get_or noted j 0 ≡ get_or notes j 0
      other-noted j f g =
          get_or-set_other (set notes (2 * number + 1 - 1) filled) (2 * number + 1) j count 0 g
          ∙ get_or-set_other notes (2 * number + 1 - 1) j filled 0 (λ e. f (omega (arith, e)))

      pub one-more-held : Book W noted later (filled + count)
      one-more-held n some = go (eqb n number) refl
        where
          go : (b : Bool) → eqb n number ≡ b → Kept W noted later (filled + count) n
          go true e =
              let same : n ≡ number = eqb-true n number e in
              rw same (record {
                inside = omega (arith, where-noted, many-noted);
                words = ap₂ (part later) where-noted many-noted ∙ words;
              })
          go false e =
              let apart = eqb-false n number e in
              let from = other-noted (2 * n) (λ q. apart (omega (arith, q))) (λ q. omega (arith, q)) in
              let many = other-noted (2 * n + 1) (λ q. omega (arith, q)) (λ q. apart (omega (arith, q))) in
              let old = held n (omega (arith, some, many)) in
              record {
                inside = omega (arith, from, many, old.inside);
                words = ap₂ (part later) from many ∙ part-kept _ _ old.inside ∙ old.words;
              }

-- ## A day folded behind what is filled
module _ (W : ℕ → List ℕ) (notes book : List ℕ) (room filled number : ℕ) (opened : Open W notes book room filled) (tail : List ℕ) (sized : length tail ≡ length book - filled)
    (count : ℕ) (short : count ≤ room) (read : part tail 0 count ≡ W number) where
  abbrev rest : List ℕ
  rest = drop (length book - filled) (drop filled book)

  abbrev after : List ℕ
  after = put_mid filled (length book - filled) book tail

  within : filled ≤ length book
  within = omega (arith, opened.roomy)

  same_size : length after ≡ length book
  same_size =
      omega (
        arith,
        sized,
        within,
        length-append (take filled book) (tail ++ rest),
        length-append tail rest,
        length-take-le filled book within,
        length-drop (length book - filled) (drop filled book),
        length-drop filled book,
      )

  there : part after filled count ≡ W number
  there = folded-there book filled within tail rest count (W number) (omega (arith, sized, short, opened.roomy)) read

  pub day-folded : Fetch W notes after room number (record { from = filled; count = count; filled = filled })
  day-folded = record {
    inside = omega (arith, same_size, short, opened.roomy);
    words = there;
    opened = record {
      held = still-held book filled within tail rest W notes opened.held;
      roomy = omega (arith, same_size, opened.roomy);
      few = omega (arith, same_size, opened.few);
    };
  }

  pub day-noted : 2 * number + 1 < length notes → filled + count + room ≤ length after
      → Fetch W (set (set notes (2 * number + 1 - 1) filled) (2 * number + 1) count) after room number (record { from = filled; count = count; filled = filled + count })
  day-noted place more = record {
    inside = omega (arith, same_size, short, opened.roomy);
    words = there;
    opened = record {
      held = one-more-held book filled within tail rest W notes opened.held number count place there;
      roomy = more;
      few = omega (arith, same_size, opened.few);
    };
  }
