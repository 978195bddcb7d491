-- What is hashed and numbered before the first list, and after one list more. Rests on the laws of numbers.
use mathlib.Core.Path.{◌≡◌, refl, sym, ap, ◌∙◌, subst}
use mathlib.Core.Bool.{Bool, true, false}
use mathlib.Core.List.{List}
use Prim.Native.Nat.{ℕ, suc, ◌+◌, ◌<◌, ◌≤◌}
use native.Mathlib.Numerals.{add-one}
use native.Mathlib.Omega.{arith}
use lib.Dec.{eqb}
use lib.ListN.{length, take, get_or, set}
use lib.Seq.{get_or-set_same, get_or-set_other, get_or-take, length-take-le}
use borrow.Author.Count.{below_more}
use borrow.Author.Tests.{eqb-true, eqb-false}
use Rattle.definition.specs.Group.{day_class}
use Rattle.day_flat.specs.Day.{unflat_from, unflat}
use Rattle.tables.specs.Days.{words_of}
use Rattle.day_memory.specs.Days.{FirstSame, hash_of, DaysHashed}
use Rattle.number_lists.specs.Numbered.{DayNumber, DaysNumbered, DayAt}
use Rattle.number_lists.specs.declared.ListDay.{ListDay}
use Rattle.number_lists.proofs.Numbering.{same-words}

-- a table with one number more, and what each of them is
set_more : (P : ℕ → ℕ → Type 0) (table : List ℕ) (n number : ℕ) → n < length table → ((k : ℕ) → k < n → P k (get_or table k 0)) → P n number
    → (k : ℕ) → k < n + 1 → P k (get_or (set table n number) k 0)
set_more P table n number room old new =
    below_more (λ k. P k (get_or (set table n number) k 0)) n (λ k l. subst (P k) (sym (get_or-set_other table n k number 0 (omega arith))) (old k l))
    (subst (P n) (sym (get_or-set_same table n number 0 room)) new)

-- ## Numbered
-- the empty list
pub numbered-none : (W : ℕ → List ℕ) (numbers classes : List ℕ) → 0 < length numbers → 0 < length classes
    → DaysNumbered (words_of W) (set numbers 0 0) (set classes 0 0) 1
unfolding words_of unflat_from day_class
numbered-none W numbers classes room wide =
    set_more (DayNumber (words_of W) (set classes 0 0)) numbers 0 0 room (λ k l. absurd (omega arith)) (record {
      first = record { low = omega arith; same = λ l. absurd (omega arith); first = λ k l. absurd (omega arith) };
      classed = get_or-set_same classes 0 0 0 wide;
    })

-- one list number more
module _ (W : ℕ → List ℕ) (numbers classes : List ℕ) (n number class : ℕ) (numbered : DaysNumbered W numbers classes n)
    (first : FirstSame W (W n) n number) (own : class ≡ day_class (unflat (W n))) (room : n < length numbers) (wide : n < length classes) where
  class-written : get_or (set classes number class) number 0 ≡ class
  class-written = get_or-set_same classes number class 0 (omega (arith, first.low))

  -- another number's class stays, and the same one's is written again
  class-kept : (k v : ℕ) → DayNumber W classes k v → DayNumber W (set classes number class) k v
  class-kept k v d = record { first = d.first; classed = go (eqb v number) refl }
    where
      go : (b : Bool) → eqb v number ≡ b → get_or (set classes number class) v 0 ≡ day_class (unflat (W k))
      go true q =
          let e : v ≡ number = eqb-true v number q in
          let words : W n ≡ W k = sym (same-words W n number first) ∙ ap W (sym e) ∙ same-words W k v d.first in
          ap (λ m. get_or (set classes number class) m 0) e ∙ class-written ∙ own ∙ ap (λ w. day_class (unflat w)) words
      go false q = get_or-set_other classes number v class 0 (eqb-false v number q) ∙ d.classed

  numbered_more : DaysNumbered W (set numbers n number) (set classes number class) (n + 1)
  numbered_more = set_more (DayNumber W (set classes number class)) numbers n number room (λ k l. class-kept k (get_or numbers k 0) (numbered k l))
      (record { first = first; classed = class-written ∙ own })

-- ## One list more, hashed and numbered
-- the lists before a place are hashed, and they and the empty list are numbered; W gives the words of each place
abbrev pub SoFar : (ℕ → List ℕ) → List ℕ → List ℕ → List ℕ → ℕ → Type 0
SoFar W hashes numbers classes place = DaysHashed W hashes place × DaysNumbered (words_of W) numbers classes (suc place)

pub list-more : (W : ℕ → List ℕ) (hashes numbers classes : List ℕ) (place : ℕ) (day : ListDay) → SoFar W hashes numbers classes place → DayAt W place day
    → place < length hashes → suc place < length numbers → suc place < length classes
    → SoFar W (set hashes place day.hash) (set numbers (place + 1) day.number) (set classes day.number day.class) (place + 1)
unfolding words_of
list-more W hashes numbers classes place day (hashed, numbered) d room roomy wide = (
  set_more (λ i hash. hash ≡ hash_of (W i)) hashes place day.hash room hashed d.hashed,
  rw (add-one place) (λ n l. numbered_more (words_of W) numbers classes (suc place) day.number day.class numbered d.first d.classed roomy wide n (omega arith)),
)
