-- The layouts of the sheet's items are faithful: put together from the laws of their parts.
use mathlib.Core.Path.{◌≡◌, refl, sym}
use mathlib.Core.Option.{Option, none, some}
use mathlib.Core.Bool.{Bool, true, false, ◌&&◌}
use Prim.Native.Nat.{ℕ, zero, suc, ◌^◌, ◌<◌}
use native.Mathlib.Omega.{arith}
use lib.Dec.{eqb, ltb}
use borrow.Author.Tests.{eqb-true, eqb-false, ltb-true}
use Rattle.laws.proofs.Flags.{split-and}
use Rattle.definition.specs.Field.{Layout, field, unlawful, plain, ◌then◌, via, tagged}
use Rattle.definition.specs.Rule.{Operator, Normal, Additional, Fallback, operator_number, operator_of, Kind, Open, Closed, Unknown, kind_number, kind_of, Time, fixed, variable, Span, MonthdayRange, months, months_of, dated, WeekDayRange, fixed_days, holiday}
use Rattle.definition.specs.Sheet.{choice, year_range, monthday_tag, month_parts, monthday_of, monthday_range, week_range, weekday_tag, weekday_parts, weekday_of, week_day_range, time_tag, time_parts, time_of, time, flag_of, flag_bit, repeats_tag, repeats_parts, repeats_of, repeats_layout, span}
use Rattle.definition.proofs.Faithful.{Faithful, Always, field-faithful, none-faithful, then-faithful, via-faithful, tagged-faithful}

-- the value of a field of w bits is below 2 ^ w, and below n where that is its test
field-low : (w n v : ℕ) → ltb v (2 ^ w) && ltb v n ≡ true → v < n
field-low w n v f = ltb-true v n (split-and (ltb v (2 ^ w)) (ltb v n) f).1

bit-low : (v : ℕ) → ltb v (2 ^ 1) && true ≡ true → v < 2
bit-low v f = ltb-true v 2 (split-and (ltb v 2) true f).0

-- ## Items with no tag
pub year-faithful : Faithful Always year_range
unfolding year_range
year-faithful =
    via-faithful Always _ _ (then-faithful (field-faithful _ _ 14) (then-faithful (field-faithful _ _ 14) (field-faithful _ _ 16)))
    (λ y u. (tt, (tt, tt))) (λ y u. refl) (λ x p f. (refl, tt))

pub week-faithful : Faithful Always week_range
unfolding week_range
week-faithful =
    via-faithful Always _ _ (then-faithful (field-faithful _ _ 6) (then-faithful (field-faithful _ _ 6) (field-faithful _ _ 8)))
    (λ y u. (tt, (tt, tt))) (λ y u. refl) (λ x p f. (refl, tt))

-- ## Items with a tag: a body for each
module _ (t : ℕ) where
  month-body : (a b : Bool) → eqb t 0 ≡ a → eqb t 1 ≡ b → t < 3 → Faithful (λ m. monthday_tag m ≡ t) (monthday_of t)
  unfolding monthday_of
  month-body true b e k l =
      rw e (via-faithful _ _ _ (then-faithful (field-faithful _ _ 4) (field-faithful _ _ 4)) (λ m q. (tt, tt)) made (λ x p f. (refl, sym z)))
    where
      z : t ≡ 0
      z = eqb-true t 0 e

      made : (m : MonthdayRange) → monthday_tag m ≡ t → months (month_parts m).0 (month_parts m).1.0 ≡ m
      made (months c d) q = refl
      made (months_of c d y) q = absurd (omega (arith, z))
      made (dated r) q = absurd (omega (arith, z))
  month-body false true e k l =
      rw (e, k)
      (via-faithful _ _ _ (then-faithful (field-faithful _ _ 4) (then-faithful (field-faithful _ _ 4) (field-faithful _ _ 14)))
      (λ m q. (tt, (tt, tt))) made (λ x p f. (refl, sym z)))
    where
      z : t ≡ 1
      z = eqb-true t 1 k

      made : (m : MonthdayRange) → monthday_tag m ≡ t → months_of (month_parts m).0 (month_parts m).1.0 (month_parts m).1.1 ≡ m
      made (months c d) q = absurd (omega (arith, z))
      made (months_of c d y) q = refl
      made (dated r) q = absurd (omega (arith, z))
  month-body false false e k l = rw (e, k) (via-faithful _ _ _ (field-faithful _ _ 32) (λ m q. tt) made (λ x p f. (refl, sym z)))
    where
      z : t ≡ 2
      z = omega (arith, eqb-false t 0 e, eqb-false t 1 k)

      made : (m : MonthdayRange) → monthday_tag m ≡ t → dated (month_parts m).0 ≡ m
      made (months c d) q = absurd (omega (arith, z))
      made (months_of c d y) q = absurd (omega (arith, z))
      made (dated r) q = refl

pub monthday-faithful : Faithful Always monthday_range
unfolding monthday_range field
monthday-faithful =
    tagged-faithful monthday_tag (field-faithful unlawful (λ v. ltb v 3) 2) (λ m. tt) (λ t u f. month-body t (eqb t 0) (eqb t 1) refl refl (field-low 2 3 t f))

-- the two bodies of a tag of one bit
module _ (t : ℕ) where
  weekday-body : (a : Bool) → eqb t 0 ≡ a → t < 2 → Faithful (λ d. weekday_tag d ≡ t) (weekday_of t)
  unfolding weekday_of
  weekday-body true e l =
      rw e (via-faithful _ _ _
      (then-faithful (field-faithful _ _ 3)
      (then-faithful (field-faithful _ _ 3) (then-faithful (field-faithful _ _ 16) (then-faithful (field-faithful _ _ 5) (field-faithful _ _ 5)))))
      (λ d q. (tt, (tt, (tt, (tt, tt))))) made (λ x p f. (refl, sym z)))
    where
      z : t ≡ 0
      z = eqb-true t 0 e

      made : (d : WeekDayRange) → weekday_tag d ≡ t
          → fixed_days (weekday_parts d).0 (weekday_parts d).1.0 (weekday_parts d).1.1.0 (weekday_parts d).1.1.1.0 (weekday_parts d).1.1.1.1 ≡ d
      made (fixed_days c d o m n) q = refl
      made (holiday k o) q = absurd (omega (arith, z))
  weekday-body false e l =
      rw e (via-faithful _ _ _ (then-faithful (field-faithful _ _ 1) (field-faithful _ _ 16)) (λ d q. (tt, tt)) made (λ x p f. (refl, sym z)))
    where
      z : t ≡ 1
      z = omega (arith, eqb-false t 0 e)

      made : (d : WeekDayRange) → weekday_tag d ≡ t → holiday (weekday_parts d).0 (weekday_parts d).1.0 ≡ d
      made (fixed_days c d o m n) q = absurd (omega (arith, z))
      made (holiday k o) q = refl

  time-body : (a : Bool) → eqb t 0 ≡ a → t < 2 → Faithful (λ c. time_tag c ≡ t) (time_of t)
  unfolding time_of
  time-body true e l = rw e (via-faithful _ _ _ (field-faithful _ _ 12) (λ c q. tt) made (λ x p f. (refl, sym z)))
    where
      z : t ≡ 0
      z = eqb-true t 0 e

      made : (c : Time) → time_tag c ≡ t → fixed (time_parts c).0 ≡ c
      made (fixed m) q = refl
      made (variable v o) q = absurd (omega (arith, z))
  time-body false e l = rw e (via-faithful _ _ _ (then-faithful (field-faithful _ _ 2) (field-faithful _ _ 16)) (λ c q. (tt, tt)) made (λ x p f. (refl, sym z)))
    where
      z : t ≡ 1
      z = omega (arith, eqb-false t 0 e)

      made : (c : Time) → time_tag c ≡ t → variable (time_parts c).0 (time_parts c).1 ≡ c
      made (fixed m) q = absurd (omega (arith, z))
      made (variable v o) q = refl

  repeats-body : (a : Bool) → eqb t 0 ≡ a → t < 2 → Faithful (λ r. repeats_tag r ≡ t) (repeats_of t)
  unfolding repeats_of
  repeats-body true e l = rw e (none-faithful _ none (sym z) only)
    where
      z : t ≡ 0
      z = eqb-true t 0 e

      only : (r : Option ℕ) → repeats_tag r ≡ t → r ≡ none
      only none q = refl
      only (some n) q = absurd (omega (arith, z))
  repeats-body false e l = rw e (via-faithful _ _ _ (field-faithful _ _ 12) (λ r q. tt) made (λ x p f. (refl, sym z)))
    where
      z : t ≡ 1
      z = omega (arith, eqb-false t 0 e)

      made : (r : Option ℕ) → repeats_tag r ≡ t → some (repeats_parts r) ≡ r
      made none q = absurd (omega (arith, z))
      made (some n) q = refl

-- a tag of one bit, and its bodies
bit-tagged : {B : Type 0} {M : ℕ → Layout B} (tag : B → ℕ) → ((t : ℕ) → t < 2 → Faithful (λ y. tag y ≡ t) (M t)) → Faithful Always (tagged (plain 1) M tag)
unfolding field
bit-tagged tag b = tagged-faithful tag (field-faithful unlawful (λ v. true) 1) (λ y. tt) (λ t u f. b t (bit-low t f))

pub weekday-faithful : Faithful Always week_day_range
unfolding week_day_range
weekday-faithful = bit-tagged weekday_tag (λ t l. weekday-body t (eqb t 0) refl l)

time-faithful : Faithful Always time
unfolding time
time-faithful = bit-tagged time_tag (λ t l. time-body t (eqb t 0) refl l)

repeats-faithful : Faithful Always repeats_layout
unfolding repeats_layout
repeats-faithful = bit-tagged repeats_tag (λ t l. repeats-body t (eqb t 0) refl l)

-- ## A span, and a rule's enumerations
open-end-low : (x : Time × (Time × (ℕ × Option ℕ))) → (time then time then plain 1 then repeats_layout).fits x ≡ true → x.1.1.0 < 2
unfolding ◌then◌ field
open-end-low x f =
    let bit = ltb x.1.1.0 (2 ^ 1) && true in
    let rest = bit && repeats_layout.fits x.1.1.1 in
    let inner = (split-and (time.fits x.0) (time.fits x.1.0 && rest) f).1 in
    bit-low x.1.1.0 (split-and bit (repeats_layout.fits x.1.1.1) (split-and (time.fits x.1.0) rest inner).1).0

pub span-faithful : Faithful Always span
unfolding span field
span-faithful =
    via-faithful Always _ _ (then-faithful time-faithful (then-faithful time-faithful (then-faithful (field-faithful unlawful (λ v. true) 1) repeats-faithful)))
    (λ s u. (tt, (tt, (tt, tt)))) made parted
  where
    flag : (b : Bool) → flag_of (flag_bit b) ≡ b
    flag true = refl
    flag false = refl

    bit : (n : ℕ) → n < 2 → flag_bit (flag_of n) ≡ n
    bit zero l = refl
    bit (suc zero) l = refl
    bit (suc (suc n)) l = absurd (omega arith)

    made : (s : Span) → Unit {0} → record { start = s.start; end = s.end; open_end = flag_of (flag_bit s.open_end); repeats = s.repeats } ≡ s
    made s u = λ i. record { start = s.start; end = s.end; open_end = flag s.open_end i; repeats = s.repeats }

    parted : (x : Time × (Time × (ℕ × Option ℕ))) → Unit {0} × (Unit {0} × (Unit {0} × Unit {0}))
        → (time then time then plain 1 then repeats_layout).fits x ≡ true
        → ((x.0, (x.1.0, (flag_bit (flag_of x.1.1.0), x.1.1.1))) ≡ x) × Unit {0}
    parted x p f = (λ i. (x.0, (x.1.0, (bit x.1.1.0 (open-end-low x f) i, x.1.1.1))), tt)

pub operator-number : (n : ℕ) → n < 3 → operator_number (operator_of n) ≡ n
operator-number zero l = refl
operator-number (suc zero) l = refl
operator-number (suc (suc zero)) l = refl
operator-number (suc (suc (suc n))) l = absurd (omega arith)

pub operator-faithful : Faithful Always (via operator_of operator_number choice)
unfolding field
operator-faithful = via-faithful Always _ _ (field-faithful unlawful (λ v. ltb v 3) 2) (λ o u. tt) made (λ n p f. (operator-number n (field-low 2 3 n f), tt))
  where
    made : (o : Operator) → Unit {0} → operator_of (operator_number o) ≡ o
    made Normal u = refl
    made Additional u = refl
    made Fallback u = refl

pub kind-faithful : Faithful Always (via kind_of kind_number choice)
unfolding field
kind-faithful = via-faithful Always _ _ (field-faithful unlawful (λ v. ltb v 3) 2) (λ k u. tt) made (λ n p f. (number n (field-low 2 3 n f), tt))
  where
    made : (k : Kind) → Unit {0} → kind_of (kind_number k) ≡ k
    made Open u = refl
    made Closed u = refl
    made Unknown u = refl

    number : (n : ℕ) → n < 3 → kind_number (kind_of n) ≡ n
    number zero l = refl
    number (suc zero) l = refl
    number (suc (suc zero)) l = refl
    number (suc (suc (suc n))) l = absurd (omega arith)
