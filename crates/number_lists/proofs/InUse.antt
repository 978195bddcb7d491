-- THE DAY OF A NUMBER. A table of day numbers has what the law from numbers to points requires: days one to one with the numbers in use, the
-- empty day for 0, and the class of each. Rests on the laws of numbers, and on the law that a day is read back from its words.
use mathlib.Core.Path.{◌≡◌, refl, sym, ap, ◌∙◌}
use mathlib.Core.Bool.{true}
use mathlib.Core.List.{List, [], ◌∷◌, flat_map}
use Prim.Native.Nat.{ℕ, zero, suc, ◌≤◌}
use native.Mathlib.Omega.{arith}
use lib.Dec.{eqb}
use lib.ListN.{length, get_or}
use borrow.Author.Tests.{eq-eqb, eqb-true}
use Rattle.laws.proofs.Flags.{same_flag_lem}
use Rattle.definition.specs.Day.{Day, flattened, day}
use Rattle.definition.specs.Group.{same_day, day_classes, day_class}
use Rattle.definition.proofs.Same.{exact-day}
use Rattle.definition.proofs.DayHolds.{InDay, day-holds}
use Rattle.day_flat.specs.Day.{flat, unflat_from, unflat, list_rules}
use Rattle.day_flat.proofs.Flat.{unflat-flat}
use Rattle.day_flat.proofs.Own.{day-own}
use Rattle.paving.proofs.Points.{Classed}
use Rattle.paving.proofs.DayClasses.{day-classed}
use Rattle.tables.specs.Lists.{list_of, named}
use Rattle.tables.specs.Days.{box_words, words_of, number_words, number_day}
use Rattle.number_lists.specs.Numbered.{DayNumber, DaysNumbered}
use Rattle.number_lists.proofs.Numbering.{same-words, one_number}

-- the empty list's day is empty: an entry's state would be a rule's
no-entries : day [] ≡ []
unfolding flattened flat_map
no-entries = none (day []) (day-holds (λ S. ⊥) (λ s. Unit {0}) (λ r p. tt) [] tt)
  where
    none : (d : Day) → InDay (λ S. ⊥) (λ s. Unit {0}) d → d ≡ []
    none [] h = refl
    none (e ∷ d) h = absurd h.0.0

-- ## Days
-- the day of a list
abbrev pub list_day : List ℕ → List ℕ → List ℕ → List ℕ → Day
list_day states counts spans list = day (list_rules states counts spans list 0 (length list))

module _ (states counts spans lists : List ℕ) where
  read_back : (list : List ℕ) → unflat (flat (list_day states counts spans list)) ≡ list_day states counts spans list
  read_back list = unflat-flat (list_day states counts spans list) (day-own states counts spans list 0 (length list))

  -- A LIST NUMBER STANDS FOR ITS LIST'S DAY
  list-day : (n : ℕ) → number_day states counts spans lists n ≡ list_day states counts spans (named lists n)
  unfolding words_of box_words named unflat_from list_rules
  list-day zero = sym no-entries
  list-day (suc i) = read_back (list_of lists i)

  words_back : (n : ℕ) → flat (number_day states counts spans lists n) ≡ number_words states counts spans lists n
  unfolding words_of box_words flat unflat_from
  words_back zero = refl
  words_back (suc i) = ap flat (read_back (list_of lists i))

-- ## Numbers in use
-- those of the empty list and of the first lists, so many
abbrev pub InUse : List ℕ → ℕ → ℕ → Type 0
InUse numbers used v = (n : ℕ) × (n ≤ used) × (v ≡ get_or numbers n 0)

module _ (states counts spans lists numbers classes : List ℕ) (used : ℕ) (numbered : DaysNumbered (number_words states counts spans lists) numbers classes (suc used)) where
  abbrev W : ℕ → List ℕ
  W = number_words states counts spans lists

  abbrev day_of : ℕ → Day
  day_of = number_day states counts spans lists

  own-number : (n : ℕ) → n ≤ used → DayNumber W classes n (get_or numbers n 0)
  own-number n l = numbered n (omega arith)

  -- a list number and its day's number have the same words, and so the same day
  words-numbered : (n : ℕ) → n ≤ used → W (get_or numbers n 0) ≡ W n
  words-numbered n l = same-words W n (get_or numbers n 0) (own-number n l).first

  pub day-numbered : (n : ℕ) → n ≤ used → day_of (get_or numbers n 0) ≡ list_day states counts spans (named lists n)
  day-numbered n l = ap unflat (words-numbered n l) ∙ list-day states counts spans lists n

  -- ONE DAY, ONE NUMBER
  pub same-day-number : (u v : ℕ) → InUse numbers used u → InUse numbers used v → same_day (day_of u) (day_of v) ≡ eqb u v
  same-day-number u v (m, k, e) (n, l, f) = same_flag_lem (same_day (day_of u) (day_of v)) (eqb u v)
      (λ h. eq-eqb u v (e ∙ one_number W m n (get_or numbers m 0) (get_or numbers n 0) (own-number m k).first (own-number n l).first (ap W (sym e) ∙ same h ∙ ap W f) ∙ sym f))
      (λ h. ap (λ w. same_day (day_of u) (day_of w)) (sym (eqb-true u v h)) ∙ exact-day.self (day_of u))
    where
      same : same_day (day_of u) (day_of v) ≡ true → W u ≡ W v
      same h = sym (words_back states counts spans lists u) ∙ ap flat (exact-day.equal (day_of u) (day_of v) h) ∙ words_back states counts spans lists v

  -- THE CLASS OF A NUMBER IS ITS DAY'S
  number-class : (v : ℕ) → InUse numbers used v → get_or classes v 0 ≡ day_class (day_of v)
  number-class v (n, l, e) = ap (λ w. get_or classes w 0) e ∙ (own-number n l).classed ∙ ap (λ w. day_class (unflat w)) (sym (ap W e ∙ words-numbered n l))

  pub numbers-classed : Classed day_of (InUse numbers used) classes 1 day_classes
  numbers-classed = day-classed day_of (InUse numbers used) classes number-class

  -- the empty list's is 0, which has no class
  pub zero_number : get_or numbers 0 0 ≡ 0
  zero_number = omega (arith, (own-number 0 (omega arith)).first.low)

  pub zero-used : InUse numbers used 0
  zero-used = (0, omega arith, sym zero_number)

  pub zero-class : get_or classes 0 0 ≡ 0
  unfolding day_class words_of unflat_from
  zero-class = ap (λ v. get_or classes v 0) (sym zero_number) ∙ (own-number 0 (omega arith)).classed

  -- none is larger than the last list's own
  pub number-low : (v : ℕ) → InUse numbers used v → v ≤ used
  number-low v (n, l, e) = omega (arith, (own-number n l).first.low)
