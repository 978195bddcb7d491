-- THE ISO WEEK OF A DATE: it lies in 1 to 53; a Thursday's is its number among its year's Thursdays; 4 January is in week 1. It stays the same
-- from Monday to Sunday, over the ends of months and years too; on a Monday it is the next number, or 1 after 52 or 53 weeks. Its Thursday is a
-- date of 1900 to 9999, so no year outside of these is needed. Rests on the laws of the week's Thursday and of the day after a date.
use mathlib.Core.Path.{◌≡◌, refl, ap, ◌∙◌}
use mathlib.Core.Bool.{true}
use mathlib.Core.Logic.{◌⊎◌, inl, inr, ⊎_elim}
use Prim.Native.Nat.{ℕ, suc, ◌+◌, ◌-◌, ◌/◌, ◌≤◌, ◌<◌}
use native.Mathlib.Nat.{eq-or-lt_of_le}
use native.Mathlib.Omega.{arith}
use Rattle.laws.specs.Lists.{sum}
use Rattle.laws.proofs.Numbers.{at_most}
use Rattle.grid.specs.Cut.{holds}
use Rattle.grid.proofs.Cut.{in-holds}
use Rattle.definition.specs.Rule.{week_bounds}
use Rattle.definition.specs.Date.{is_leap, is_date, day_of_year, new_year, weekday_from, year_length, day_after, times, weekday_at, weekday_of, thursday, thursday_of, thursdays_by, week_at, week_of}
use Rattle.calendar.specs.Days.{InYear}
use Rattle.calendar.specs.Next.{next}
use Rattle.calendar.proofs.Days.{year-long, weekday-within, after-inside, on-within, on-over}
use Rattle.calendar.proofs.Date.{date-year, day-in-year}
use Rattle.calendar.proofs.Thursday.{thursday-number, thursday-same, thursday-before, thursday-in, is-thursday, thursday-stays, thursday-after}
use Rattle.calendar.proofs.Next.{next-after}

-- ## Of a day of a year
module _ (y n : ℕ) (inside : InYear (y, n)) (h : 1900 ≤ y) where
  -- the week is the number of its Thursday
  pub week-number : week_at (y, n) ≡ ((thursday_of (y, n)).1 - 1) / 7 + 1
  unfolding week_at
  week-number = let lies = is-thursday y n inside h in thursday-number (thursday_of (y, n)).0 (thursday_of (y, n)).1 lies.1.0 lies.2

  pub week-bounds : (1 ≤ week_at (y, n)) × (week_at (y, n) < 54)
  week-bounds =
      let long = year-long (thursday_of (y, n)).0 in
      let lies = (is-thursday y n inside h).1 in (omega (arith, week-number), omega (arith, week-number))

-- after a Sunday the number is the next one; or the year has had its 52 or 53 weeks, and it is 1
abbrev pub Turns : ℕ → ℕ → Type 0
Turns week after = (after ≡ suc week) ⊎ ((after ≡ 1) × (52 ≤ week))

week-after : (y n : ℕ) → InYear (y, n) → 1900 ≤ y → weekday_at (y, n) ≡ 6 → Turns (week_at (y, n)) (week_at (day_after (y, n)))
week-after y n inside h e = ⊎_elim early late (at_most n 3)
  where
    old : week_at (y, n) ≡ ((thursday_of (y, n)).1 - 1) / 7 + 1
    old = week-number y n inside h

    new : week_at (day_after (y, n)) ≡ ((thursday_of (day_after (y, n))).1 - 1) / 7 + 1
    new = let lies = after-inside y n inside in week-number (day_after (y, n)).0 (day_after (y, n)).1 lies.1 (omega (arith, lies, h))

    monday : thursday_of (day_after (y, n)) ≡ times 4 day_after (y, n)
    monday = thursday-after y n inside h e

    here : n + 4 ≤ year_length y → (thursday_of (day_after (y, n))).1 ≡ n + 4
    here l = ap (λ t. t.1) (monday ∙ on-within 4 y n l)

    over : year_length y < n + 4 → (thursday_of (day_after (y, n))).1 ≡ n + 4 - year_length y
    over l = ap (λ t. t.1) (monday ∙ on-over 4 y n inside.1 l (omega arith))

    same : 3 < n → (thursday_of (y, n)).1 ≡ n + 3 - weekday_at (y, n)
    same l = ap (λ t. t.1) (thursday-same y n inside (omega (arith, e)) (omega (arith, e, inside)))

    early : n ≤ 3 → Turns (week_at (y, n)) (week_at (day_after (y, n)))
    early l =
        let before = ap (λ t. t.1) (thursday-before y n inside (omega (arith, e))) in
        inr (omega (arith, new, here (omega (arith, year-long y)), inside), omega (arith, old, before, e, year-long (y - 1), inside))

    late : 3 < n → Turns (week_at (y, n)) (week_at (day_after (y, n)))
    late l =
        ⊎_elim
        (λ k. inl (omega (arith, new, old, here k, same l, e)))
        (λ k. inr (omega (arith, new, over k, inside), omega (arith, old, same l, e, k, year-long y)))
        (at_most (n + 4) (year_length y))

-- 1 January 9999 is a Friday, so the year's last Thursday comes before its last day
last-year : (y n : ℕ) → y ≡ 9999 → InYear (y, n) → n + 3 - weekday_at (y, n) ≤ year_length y
unfolding weekday_at weekday_from year_length is_leap new_year
last-year y n e inside = let friday : new_year 8099 ≡ 4 = refl in rw e (omega (arith, friday, rw e at inside))

-- ## Of a date
module _ (y m d : ℕ) (h : is_date y m d ≡ true) where
  abbrev n : ℕ
  n = day_of_year y m d

  inside : InYear (y, n)
  inside = day-in-year y m d h

  from-1900 : 1900 ≤ y
  from-1900 = (date-year y m d h).0

  -- EVERY WEEK LIES IN 1 TO 53
  pub week-within : holds (week_of y m d) week_bounds ≡ true
  unfolding week_of
  week-within = let bounds = week-bounds y n inside from-1900 in in-holds (week_at (y, n)) week_bounds bounds.0 bounds.1

  -- A THURSDAY'S WEEK IS ITS NUMBER IN ITS YEAR
  pub thursday-week : weekday_of y m d ≡ thursday → week_of y m d ≡ (n - 1) / 7 + 1
  unfolding week_of weekday_of
  thursday-week e =
      let own = ap (λ t. t.1) (thursday-same y n inside (omega (arith, e, inside)) (omega (arith, e, inside))) in
      week-number y n inside from-1900 ∙ omega (arith, own, e)

  -- FROM MONDAY TO SUNDAY THE WEEK STAYS
  pub week-stays : weekday_of y m d < 6 → week_of (next y m d).0 (next y m d).1 (next y m d).2 ≡ week_of y m d
  unfolding week_of week_at weekday_of
  week-stays l = ap week_at (next-after y m d h) ∙ ap thursdays_by (thursday-stays y n inside from-1900 l)

  -- AND WITH A MONDAY COMES THE NEXT ONE
  pub week-turns : weekday_of y m d ≡ 6 → Turns (week_of y m d) (week_of (next y m d).0 (next y m d).1 (next y m d).2)
  unfolding week_of weekday_of
  week-turns e = rw (next-after y m d h) (week-after y n inside from-1900 e)

  -- THE WEEK'S THURSDAY IS OF 1900 TO 9999: 1 January 1900 is a Monday, and 31 December 9999 a Friday
  pub thursday-dated : (1900 ≤ (thursday_of (y, n)).0) × ((thursday_of (y, n)).0 < 10000)
  thursday-dated =
      let years = date-year y m d h in
      ((is-thursday y n inside from-1900).0, thursday-in y n inside (λ t. t.0 < 10000) (λ l k. years.1) (λ l. omega (arith, years)) last)
    where
      last : year_length y < n + 3 - weekday_at (y, n) → suc y < 10000
      last l = ⊎_elim (λ e. absurd (omega (arith, last-year y n (omega arith) inside, l))) (λ k. k) (eq-or-lt_of_le (date-year y m d h).1)

-- 4 JANUARY IS IN WEEK 1
pub fourth-of-january : (y : ℕ) → 1900 ≤ y → week_of y 1 4 ≡ 1
unfolding week_of
fourth-of-january y h =
    let inside : InYear (y, 4) = (omega arith, omega (arith, year-long y)) in
    let within = weekday-within (y, 4) in
    let own = ap (λ t. t.1) (thursday-same y 4 inside (omega arith) (omega (arith, year-long y))) in
    ap (λ k. week_at (y, k)) fourth ∙ week-number y 4 inside h ∙ omega (arith, own)
  where
    fourth : day_of_year y 1 4 ≡ 4
    fourth = unfold day_of_year sum in refl
