-- THE THURSDAY OF A WEEK: it lies in the day's own year, in the year before or in the next; it is a Thursday, the same for all days from Monday
-- to Sunday; and how many Thursdays its year has had with it. Rests on the laws of days.
use mathlib.Core.Path.{◌≡◌, refl, sym, ap, ◌∙◌}
use mathlib.Core.Bool.{Bool, true, false, cond}
use mathlib.Core.Logic.{⊎_elim}
use Prim.Native.Nat.{ℕ, zero, suc, ◌+◌, ◌-◌, ◌/◌, ◌%◌, ◌≤◌, ◌<◌}
use native.Mathlib.Nat.{eq-or-lt_of_le}
use native.Mathlib.Omega.{arith}
use lib.Dec.{eqb}
use borrow.Author.Tests.{eqb-true, eqb-false}
use Rattle.laws.specs.Lists.{from, count}
use Rattle.laws.proofs.Numbers.{at_most}
use Rattle.definition.specs.Date.{is_leap, new_year, weekday_from, YearDay, year_length, day_after, day_before, times, weekday_at, thursday, thursday_of, thursdays_among, thursdays_by}
use Rattle.calendar.specs.Days.{InYear}
use Rattle.calendar.proofs.Days.{year-long, year-more, before-after, weekday-within, weekday-after, on-within, on-over, back-within, back-over}

-- ## How many Thursdays
-- among the n days after the first s
thursdays-after : (first s n : ℕ) → count (λ k. eqb (weekday_from first k) thursday) (from (suc s) n) ≡ (first + s + n + 3) / 7 - (first + s + 3) / 7
unfolding count from weekday_from
thursdays-after first s zero = omega arith
thursdays-after first s (suc n) = go (eqb ((first + (suc s - 1)) % 7) thursday) refl (thursdays-after first (suc s) n)
  where
    go : (t : Bool) → eqb ((first + (suc s - 1)) % 7) thursday ≡ t
        → count (λ k. eqb ((first + (k - 1)) % 7) thursday) (from (suc (suc s)) n) ≡ (first + suc s + n + 3) / 7 - (first + suc s + 3) / 7
        → cond t 1 0 + count (λ k. eqb ((first + (k - 1)) % 7) thursday) (from (suc (suc s)) n) ≡ (first + s + suc n + 3) / 7 - (first + s + 3) / 7
    go true e h = omega (arith, eqb-true ((first + (suc s - 1)) % 7) thursday e)
    go false e h = omega (arith, eqb-false ((first + (suc s - 1)) % 7) thursday e)

-- a Thursday's number in its year: the first is one of the days 1 to 7
pub thursday-number : (y n : ℕ) → 1 ≤ n → weekday_at (y, n) ≡ thursday → thursdays_by (y, n) ≡ (n - 1) / 7 + 1
unfolding thursdays_by thursdays_among weekday_at weekday_from
thursday-number y n l e = thursdays-after (new_year (y - 1900)) 0 n ∙ omega arith

-- ## Where the Thursday lies
-- from Monday to Thursday one walks on, from Thursday to Sunday back
walk-on : (a : YearDay) → weekday_at a ≤ 3 → thursday_of a ≡ times (3 - weekday_at a) day_after a
unfolding thursday_of times
walk-on a l = let e : weekday_at a - 3 ≡ 0 = omega arith in rw e

walk-back : (a : YearDay) → 3 ≤ weekday_at a → thursday_of a ≡ times (weekday_at a - 3) day_before a
unfolding thursday_of times
walk-back a l = let e : 3 - weekday_at a ≡ 0 = omega arith in rw e

module _ (y n : ℕ) (inside : InYear (y, n)) where
  abbrev w : ℕ
  w = weekday_at (y, n)

  pub thursday-same : w < n + 3 → n + 3 - w ≤ year_length y → thursday_of (y, n) ≡ (y, n + 3 - w)
  thursday-same l h = ⊎_elim on back (at_most w 3)
    where
      on : w ≤ 3 → thursday_of (y, n) ≡ (y, n + 3 - w)
      on k = let e : n + (3 - w) ≡ n + 3 - w = omega arith in walk-on (y, n) k ∙ on-within (3 - w) y n (omega arith) ∙ rw e

      back : 3 < w → thursday_of (y, n) ≡ (y, n + 3 - w)
      back k = let e : n - (w - 3) ≡ n + 3 - w = omega arith in walk-back (y, n) (omega arith) ∙ back-within (w - 3) y n (omega arith) ∙ rw e

  pub thursday-before : n + 3 ≤ w → thursday_of (y, n) ≡ (y - 1, year_length (y - 1) + n + 3 - w)
  thursday-before l =
      let e : year_length (y - 1) + n - (w - 3) ≡ year_length (y - 1) + n + 3 - w = omega (arith, inside) in
      walk-back (y, n) (omega arith) ∙ back-over (w - 3) y n inside.0 (omega arith) (omega (arith, weekday-within (y, n))) ∙ rw e

  pub thursday-next : year_length y < n + 3 - w → thursday_of (y, n) ≡ (suc y, n + 3 - w - year_length y)
  thursday-next l =
      let e : n + (3 - w) - year_length y ≡ n + 3 - w - year_length y = omega (arith, inside) in
      walk-on (y, n) (omega (arith, inside)) ∙ on-over (3 - w) y n inside.1 (omega (arith, inside)) (omega arith) ∙ rw e

  -- what holds in each of the three years holds of the Thursday
  pub thursday-in :
      (P : YearDay → Type 0)
      → (w < n + 3 → n + 3 - w ≤ year_length y → P (y, n + 3 - w))
      → (n + 3 ≤ w → P (y - 1, year_length (y - 1) + n + 3 - w))
      → (year_length y < n + 3 - w → P (suc y, n + 3 - w - year_length y))
      → P (thursday_of (y, n))
  thursday-in P same before next = ⊎_elim (λ l. rw (thursday-before l) (before l)) here (at_most (n + 3) w)
    where
      here : w < n + 3 → P (thursday_of (y, n))
      here l = ⊎_elim (λ h. rw (thursday-same l h) (same l h)) (λ h. rw (thursday-next h) (next h)) (at_most (n + 3 - w) (year_length y))

  -- 1 January 1900 was a Monday, so no week of 1900 has its Thursday in the year before
  first-year : 1900 ≤ y → n + 3 ≤ w → 1901 ≤ y
  unfolding weekday_at weekday_from new_year
  first-year h l = ⊎_elim (λ e. absurd (omega (arith, rw (← e) at l))) (λ k. k) (eq-or-lt_of_le h)

  in-same : w < n + 3 → weekday_at (y, n + 3 - w) ≡ thursday
  unfolding weekday_at weekday_from
  in-same l = omega (arith, l, inside)

  in-before : 1901 ≤ y → n + 3 ≤ w → weekday_at (y - 1, year_length (y - 1) + n + 3 - w) ≡ thursday
  unfolding weekday_at weekday_from year_length
  in-before h l = go (is_leap (y - 1)) (new_year (y - 1900)) first l
    where
      first : new_year (y - 1900) ≡ (new_year (y - 1 - 1900) + cond (is_leap (y - 1)) 2 1) % 7
      first = let e : suc (y - 1) ≡ y = omega (arith, h) in rw e at (year-more (y - 1) (omega (arith, h)))

      go : (leap : Bool) (own : ℕ) → own ≡ (new_year (y - 1 - 1900) + cond leap 2 1) % 7 → n + 3 ≤ (own + (n - 1)) % 7
          → (new_year (y - 1 - 1900) + (cond leap 366 365 + n + 3 - (own + (n - 1)) % 7 - 1)) % 7 ≡ 3
      go true own e k = omega (arith, inside)
      go false own e k = omega (arith, inside)

  in-next : 1900 ≤ y → year_length y < n + 3 - w → weekday_at (suc y, n + 3 - w - year_length y) ≡ thursday
  unfolding weekday_at weekday_from year_length
  in-next h l = rw (year-more y h) (go (is_leap y) l)
    where
      go : (leap : Bool) → cond leap 366 365 < n + 3 - (new_year (y - 1900) + (n - 1)) % 7
          → ((new_year (y - 1900) + cond leap 2 1) % 7 + (n + 3 - (new_year (y - 1900) + (n - 1)) % 7 - cond leap 366 365 - 1)) % 7 ≡ 3
      go true k = omega (arith, inside)
      go false k = omega (arith, inside)

  -- IT IS A THURSDAY, of the year 1900 or a later one
  pub is-thursday : 1900 ≤ y → (1900 ≤ (thursday_of (y, n)).0) × InYear (thursday_of (y, n)) × (weekday_at (thursday_of (y, n)) ≡ thursday)
  is-thursday h =
      let before-long = year-long (y - 1) in
      let next-long = year-long (suc y) in
      let days = weekday-within (y, n) in
      thursday-in
      (λ t. (1900 ≤ t.0) × InYear t × (weekday_at t ≡ thursday))
      (λ l k. (h, (omega arith, k), in-same l))
      (λ l. (omega (arith, first-year h l), (omega arith, omega arith), in-before (first-year h l) l))
      (λ l. (omega arith, (omega arith, omega (arith, next-long, inside)), in-next h l))

  -- THE SAME FROM MONDAY TO SUNDAY: the day after any other day than a Sunday is in its week
  pub thursday-stays : 1900 ≤ y → w < 6 → thursday_of (day_after (y, n)) ≡ thursday_of (y, n)
  unfolding times
  thursday-stays h l = ⊎_elim back on (at_most 3 w)
    where
      follows : weekday_at (day_after (y, n)) ≡ suc w
      follows = weekday-after y n inside h ∙ omega (arith, l)

      on : w < 3 → thursday_of (day_after (y, n)) ≡ thursday_of (y, n)
      on k =
          let e : 3 - w ≡ suc (3 - weekday_at (day_after (y, n))) = omega (arith, follows) in
          walk-on (day_after (y, n)) (omega (arith, follows)) ∙ sym (walk-on (y, n) (omega arith) ∙ rw e)

      back : 3 ≤ w → thursday_of (day_after (y, n)) ≡ thursday_of (y, n)
      back k =
          let e : weekday_at (day_after (y, n)) - 3 ≡ suc (w - 3) = omega (arith, follows) in
          walk-back (day_after (y, n)) (omega (arith, follows)) ∙ rw e (ap (times (w - 3) day_before) (before-after y n inside)) ∙ sym (walk-back (y, n) k)

  -- after a Sunday comes the Monday of the next week, whose Thursday is 4 days after the Sunday
  pub thursday-after : 1900 ≤ y → w ≡ 6 → thursday_of (day_after (y, n)) ≡ times 4 day_after (y, n)
  unfolding times
  thursday-after h e =
      let monday : weekday_at (day_after (y, n)) ≡ 0 = weekday-after y n inside h ∙ omega (arith, e) in
      walk-on (day_after (y, n)) (omega (arith, monday)) ∙ rw monday
