-- THE DAY AFTER A DATE is a date, the day after it in the year, and the weekdays of both follow each other, over the ends of months and years
-- too. Rests on the laws of dates and of days.
use mathlib.Core.Path.{◌≡◌, refl, sym, ap, ◌∙◌}
use mathlib.Core.Bool.{Bool, true, false}
use Prim.Native.Nat.{ℕ, suc, ◌+◌, ◌-◌, ◌%◌, ◌≤◌, ◌<◌}
use native.Mathlib.Omega.{arith}
use lib.Dec.{ltb}
use lib.ListN.{get_or}
use borrow.Author.Tests.{ltb-true, ltb-false}
use Rattle.laws.specs.Lists.{sum}
use Rattle.laws.proofs.Lists.{All-at}
use Rattle.definition.specs.Date.{is_leap, month_lengths, month_length, is_date, day_of_year, YearDay, year_length, day_after, weekday_at, weekday_of}
use Rattle.calendar.specs.Next.{Date, next}
use Rattle.calendar.proofs.Days.{same-year, next-year, weekday-after}
use Rattle.calendar.proofs.Date.{date-year, date-month, date-day, make-date, day-in-year, sum-take-next, year-days}

-- ## The day of the year goes on
month-end : (y m : ℕ) → 1 ≤ m → m < 12 → day_of_year y (suc m) 1 ≡ suc (day_of_year y m (month_length y m))
unfolding day_of_year month_length
month-end y m h l =
    let e : suc m - 1 ≡ suc (m - 1) = omega arith in rw (e, sum-take-next (month_lengths (is_leap y)) (m - 1) (omega arith)) (omega arith)

year-end : (y : ℕ) → day_of_year y 12 (month_length y 12) ≡ year_length y
unfolding day_of_year month_length
year-end y = sym (sum-take-next (month_lengths (is_leap y)) 11 (omega arith)) ∙ year-days y

year-start : (y : ℕ) → day_of_year y 1 1 ≡ 1
unfolding day_of_year sum
year-start y = refl

-- ## The day after
month-long : (y m : ℕ) → 1 ≤ m → m < 13 → 1 ≤ month_length y m
unfolding month_length
month-long y m h l = go (is_leap y)
  where
    go : (leap : Bool) → 1 ≤ get_or (month_lengths leap) (m - 1) 0
    go true = All-at (λ x. 1 ≤ x) (month_lengths true) 0 (omega arith) (m - 1) (omega arith)
    go false = All-at (λ x. 1 ≤ x) (month_lengths false) 0 (omega arith) (m - 1) (omega arith)

-- a date's place in its year
abbrev pub year_day : Date → YearDay
year_day a = (a.0, day_of_year a.0 a.1 a.2)

module _ (y m d : ℕ) (h : is_date y m d ≡ true) where
  same-month : ltb d (month_length y m) ≡ true → is_date y m (suc d) ≡ true
  same-month e = make-date y m (suc d) (date-year y m d h) (date-month y m d h) (omega arith, ltb-true d (month_length y m) e)

  next-month : ltb m 12 ≡ true → is_date y (suc m) 1 ≡ true
  next-month f =
      let k : suc m < 13 = omega (arith, ltb-true m 12 f) in
      make-date y (suc m) 1 (date-year y m d h) (omega arith, k) (omega arith, month-long y (suc m) (omega arith) k)

  last-day : ltb d (month_length y m) ≡ false → d ≡ month_length y m
  last-day e = omega (arith, ltb-false d (month_length y m) e, date-day y m d h)

  -- A DATE, but for the last year's end
  pub next-date : y < 9999 → is_date (next y m d).0 (next y m d).1 (next y m d).2 ≡ true
  unfolding next
  next-date l = go (ltb d (month_length y m)) refl (ltb m 12) refl
    where
      go : (s : Bool) → ltb d (month_length y m) ≡ s → (t : Bool) → ltb m 12 ≡ t → is_date (next y m d).0 (next y m d).1 (next y m d).2 ≡ true
      go true e t f = rw (e, next) (same-month e)
      go false e true f = rw (e, f, next) (next-month f)
      go false e false f =
          let years : (1900 ≤ suc y) × (suc y < 10000) = (omega (arith, date-year y m d h), omega arith) in
          rw (e, f, next) (make-date (suc y) 1 1 years (omega arith, omega arith) (omega arith, month-long (suc y) 1 (omega arith) (omega arith)))

  -- its place is the day after in the same year, or the next year's first
  pub next-after : year_day (next y m d) ≡ day_after (y, day_of_year y m d)
  unfolding next
  next-after = go (ltb d (month_length y m)) refl (ltb m 12) refl
    where
      on : (m' d' : ℕ) → is_date y m' d' ≡ true → day_of_year y m' d' ≡ suc (day_of_year y m d) → year_day (y, m', d') ≡ day_after (y, day_of_year y m d)
      on m' d' k e = rw e (sym (same-year y (day_of_year y m d) (omega (arith, e, day-in-year y m' d' k))))

      go : (s : Bool) → ltb d (month_length y m) ≡ s → (t : Bool) → ltb m 12 ≡ t → year_day (next y m d) ≡ day_after (y, day_of_year y m d)
      go true e t f = rw (e, next) (on m (suc d) (same-month e) (unfold day_of_year in omega arith))
      go false e true f = rw (e, f, next) (on (suc m) 1 (next-month f) (rw (last-day e) (month-end y m (date-month y m d h).0 (ltb-true m 12 f))))
      go false e false f =
          let twelve : m ≡ 12 = omega (arith, ltb-false m 12 f, date-month y m d h) in
          rw (e, f, next) (rw (year-start (suc y)) (sym (next-year y (day_of_year y m d) (rw (last-day e, twelve) (year-end y)))))

  -- its weekday is the next one
  pub weekday-follows : weekday_of (next y m d).0 (next y m d).1 (next y m d).2 ≡ (weekday_of y m d + 1) % 7
  unfolding weekday_of
  weekday-follows = ap weekday_at next-after ∙ weekday-after y (day_of_year y m d) (day-in-year y m d h) (date-year y m d h).0
