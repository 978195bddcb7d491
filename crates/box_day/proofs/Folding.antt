-- A box's list is lent as a part of all lists to be folded: what that call requires, and that the words which come back are the box's.
use mathlib.Core.Path.{◌≡◌, refl, sym, ap, ◌∙◌, subst}
use mathlib.Core.List.{List, ◌∷◌, map}
use Prim.Native.Nat.{ℕ, zero, suc, ◌+◌, ◌-◌, ◌*◌, ◌≤◌}
use native.Mathlib.Omega.{arith}
use lib.ListN.{length, take, drop, get_or}
use lib.Seq.{sets}
use Rattle.laws.specs.Lists.{from}
use Rattle.words.specs.Words.{part}
use Rattle.tables.specs.Days.{Tables, box_words, Ready}
use Rattle.words.proofs.Sets.{part-sets, part-taken}
use Rattle.tables.specs.Sizes.{list_places, list_limit}
use Rattle.tables.specs.Lists.{list_of}
use Rattle.tables.proofs.Lists.{list_length}
use Rattle.box_day.specs.Boxes.{list_words, Folded}

-- ## A box's list is what stands behind its count
part-map : (s : List ℕ) (at k n : ℕ) → map (λ j. get_or s (at + j) 0) (from k n) ≡ part s (at + k) n
unfolding part from
part-map s at k zero = refl
part-map s at k (suc n) = ap (get_or s (at + k) 0 ∷◌) (part-map s at (suc k) n ∙ ap (λ j. part s j n) (let z : at + suc k ≡ at + k + 1 = omega arith in z))

list-part : (lists : List ℕ) (box : ℕ) → list_of lists box ≡ part lists (box * list_places + 1) (get_or lists (box * list_places) 0)
unfolding list_of
list-part lists box =
    part-map lists (box * list_places + 1) 0 (get_or lists (box * list_places) 0)
    ∙ ap (λ j. part lists j (get_or lists (box * list_places) 0)) (let z : box * list_places + 1 + 0 ≡ box * list_places + 1 = omega arith in z)

-- ## It is folded
module _ (states counts spans lists : List ℕ) (room box : ℕ) (ready : Ready states counts spans lists room box) (count : ℕ) (c : count ≡ get_or lists (box * list_places) 0) where
  abbrev slice : List ℕ
  slice = take (box * list_places + 1 + count - (box * list_places + 1)) (drop (box * list_places + 1) lists)

  slice-list : slice ≡ list_of lists box
  slice-list =
      let s : get_or lists (box * list_places) 0 ≤ list_limit = ready.short in
      let t : box * list_places + list_places ≤ length lists = ready.there in
      let n : box * list_places + 1 + count - (box * list_places + 1) ≡ get_or lists (box * list_places) 0 = omega arith in
      ap (λ k. take k (drop (box * list_places + 1) lists)) n ∙ part-taken lists (box * list_places + 1) (get_or lists (box * list_places) 0) (omega (arith, s, t))
      ∙ sym (list-part lists box)

  -- what folding it requires
  pub fold-needs : Tables states counts spans slice × (length slice ≤ list_limit)
  fold-needs =
      let s : get_or lists (box * list_places) 0 ≤ list_limit = ready.short in
      (subst (Tables states counts spans) (sym slice-list) ready.tabled, omega (arith, s, ap length slice-list, list_length lists box))

  -- and what it gives
  pub fold-gives : (before after : List ℕ) (r : ℕ) → room ≡ length before → Folded states counts spans slice before after r
      → (part after 0 r ≡ box_words states counts spans lists box) × (r ≡ length (box_words states counts spans lists box))
  unfolding box_words
  fold-gives before after r m h = (
    ap (part after 0) sized ∙ ap (λ s. part s 0 (length (box_words states counts spans lists box))) laid
        ∙ part-sets before 0 (box_words states counts spans lists box) (let w : length (box_words states counts spans lists box) ≤ room = ready.wordy in omega (arith, w)),
    sized,
  )
    where
      sized : r ≡ length (box_words states counts spans lists box)
      sized = h.1 ∙ ap (λ l. length (list_words states counts spans l)) slice-list

      laid : after ≡ sets before 0 (box_words states counts spans lists box)
      laid = h.0 ∙ ap (λ l. sets before 0 (list_words states counts spans l)) slice-list
