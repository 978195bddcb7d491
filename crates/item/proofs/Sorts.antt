-- What a stage makes of an item, sort by sort; and what holds of it for every sort.
use mathlib.Core.Path.{◌≡◌, sym, refl}
use mathlib.Core.List.{List}
use mathlib.Core.Bool.{Bool, true, false, cond}
use Prim.Native.Nat.{ℕ}
use lib.Dec.{eqb}
use borrow.Author.Tests.{eq-eqb, ne_eqb}
use Rattle.definition.specs.Field.{Read}
use Rattle.definition.specs.Rule.{YearRange, MonthdayRange, WeekRange, WeekDayRange, Span}
use Rattle.definition.specs.Sheet.{year_range, monthday_range, week_range, week_day_range, span}
use Rattle.item.specs.Sort.{named, of_sort}

module _ {B : Type 0} (years : ℕ → Read YearRange → B) (monthdays : ℕ → Read MonthdayRange → B) (weeks : ℕ → Read WeekRange → B)
    (weekdays : ℕ → Read WeekDayRange → B) (spans : ℕ → Read Span → B) (sort : ℕ) (s : List ℕ) (p : ℕ) where
  abbrev of : B
  of = of_sort years monthdays weeks weekdays spans sort s p

  pub of-years : sort ≡ 0 → years p (year_range.read s p) ≡ of
  unfolding of_sort
  of-years e = sym (rw (eq-eqb sort 0 e))

  module _ (not-years : sort ≡ 0 → ⊥) where
    pub of-monthdays : sort ≡ 1 → monthdays p (monthday_range.read s p) ≡ of
    unfolding of_sort
    of-monthdays e = sym (rw (ne_eqb sort 0 not-years, eq-eqb sort 1 e))

    module _ (not-monthdays : sort ≡ 1 → ⊥) where
      pub of-weeks : sort ≡ 2 → weeks p (week_range.read s p) ≡ of
      unfolding of_sort
      of-weeks e = sym (rw (ne_eqb sort 0 not-years, ne_eqb sort 1 not-monthdays, eq-eqb sort 2 e))

      module _ (not-weeks : sort ≡ 2 → ⊥) where
        pub of-weekdays : sort ≡ 3 → weekdays p (week_day_range.read s p) ≡ of
        unfolding of_sort
        of-weekdays e = sym (rw (ne_eqb sort 0 not-years, ne_eqb sort 1 not-monthdays, ne_eqb sort 2 not-weeks, eq-eqb sort 3 e))

        pub of-spans : (sort ≡ 3 → ⊥) → spans p (span.read s p) ≡ of
        unfolding of_sort
        of-spans e = sym (rw (ne_eqb sort 0 not-years, ne_eqb sort 1 not-monthdays, ne_eqb sort 2 not-weeks, ne_eqb sort 3 e))

  pub of-each : (P : B → Type 0) → P (years p (year_range.read s p)) → P (monthdays p (monthday_range.read s p)) → P (weeks p (week_range.read s p))
      → P (weekdays p (week_day_range.read s p)) → P (spans p (span.read s p)) → P of
  unfolding of_sort
  of-each P y m w d t = go (eqb sort 0) (eqb sort 1) (eqb sort 2) (eqb sort 3)
    where
      go : (a b c e : Bool) → P (cond a (years p (year_range.read s p)) (cond b (monthdays p (monthday_range.read s p))
          (cond c (weeks p (week_range.read s p)) (cond e (weekdays p (week_day_range.read s p)) (spans p (span.read s p))))))
      go true b c e = y
      go false true c e = m
      go false false true e = w
      go false false false true = d
      go false false false false = t

  -- a number says what the sort says that it names
  pub of-named : (number : ℕ) → number ≡ named sort → of_sort years monthdays weeks weekdays spans number s p ≡ of
  unfolding of_sort
  of-named number e = rw e (go (eqb sort 0) (eqb sort 1) (eqb sort 2) (eqb sort 3))
    where
      chain : ℕ → B
      chain n = of_sort years monthdays weeks weekdays spans n s p

      go : (a b c e : Bool) → chain (cond a 0 (cond b 1 (cond c 2 (cond e 3 4)))) ≡ cond a (chain 0) (cond b (chain 1) (cond c (chain 2) (cond e (chain 3) (chain 4))))
      go true b c e = refl
      go false true c e = refl
      go false false true e = refl
      go false false false true = refl
      go false false false false = refl
