-- DAYS, OVER THE ENDS OF YEARS: how long a year is, a day is the one before the day after it, weekdays follow each other, and where one comes
-- by walking some days on or back.
use mathlib.Core.Path.{◌≡◌, refl, ap, ◌∙◌}
use mathlib.Core.Bool.{Bool, true, false, cond}
use mathlib.Core.Logic.{⊎_elim}
use Prim.Native.Nat.{ℕ, zero, suc, ◌+◌, ◌-◌, ◌%◌, ◌≤◌, ◌<◌}
use native.Mathlib.Nat.{mod-lt, eq-or-lt_of_le}
use native.Mathlib.Omega.{arith}
use borrow.Author.Tests.{lt-ltb, le-ltb}
use Rattle.definition.specs.Date.{is_leap, new_year, weekday_from, YearDay, year_length, day_after, day_before, times, weekday_at}
use Rattle.calendar.specs.Days.{InYear}

pub year-long : (y : ℕ) → (365 ≤ year_length y) × (year_length y ≤ 366)
unfolding year_length
year-long y = go (is_leap y)
  where
    go : (leap : Bool) → (365 ≤ cond leap 366 365) × (cond leap 366 365 ≤ 366)
    go true = (omega arith, omega arith)
    go false = (omega arith, omega arith)

-- a year more moves 1 January on by its days
pub year-more : (y : ℕ) → 1900 ≤ y → new_year (suc y - 1900) ≡ (new_year (y - 1900) + cond (is_leap y) 2 1) % 7
unfolding new_year
year-more y h =
    let e : suc y - 1900 ≡ suc (y - 1900) = omega arith in
    let f : 1900 + (y - 1900) ≡ y = omega arith in rw (e, f)

pub weekday-within : (a : YearDay) → weekday_at a < 7
unfolding weekday_at weekday_from
weekday-within a = mod-lt (new_year (a.0 - 1900) + (a.1 - 1)) (omega arith)

-- ## One day on, one day back
pub same-year : (y n : ℕ) → n < year_length y → day_after (y, n) ≡ (y, suc n)
unfolding day_after
same-year y n l = rw (lt-ltb n (year_length y) l, day_after)

pub next-year : (y n : ℕ) → n ≡ year_length y → day_after (y, n) ≡ (suc y, 1)
unfolding day_after
next-year y n e = rw (le-ltb n (year_length y) (omega (arith, e)), day_after)

own-year : (y n : ℕ) → 1 < n → day_before (y, n) ≡ (y, n - 1)
unfolding day_before
own-year y n l = rw (lt-ltb 1 n l, day_before)

year-before : (y : ℕ) → day_before (y, 1) ≡ (y - 1, year_length (y - 1))
unfolding day_before
year-before y = refl

module _ (y n : ℕ) (inside : InYear (y, n)) where
  pub before-after : day_before (day_after (y, n)) ≡ (y, n)
  before-after = ⊎_elim next same (eq-or-lt_of_le inside.1)
    where
      same : n < year_length y → day_before (day_after (y, n)) ≡ (y, n)
      same l = let f : suc n - 1 ≡ n = omega arith in ap day_before (same-year y n l) ∙ own-year y (suc n) (omega (arith, inside)) ∙ rw f

      next : n ≡ year_length y → day_before (day_after (y, n)) ≡ (y, n)
      next e = let f : suc y - 1 ≡ y = omega arith in ap day_before (next-year y n e) ∙ year-before (suc y) ∙ rw (f, e)

  pub after-inside : (y ≤ (day_after (y, n)).0) × InYear (day_after (y, n))
  after-inside = ⊎_elim next same (eq-or-lt_of_le inside.1)
    where
      same : n < year_length y → (y ≤ (day_after (y, n)).0) × InYear (day_after (y, n))
      same l = rw (same-year y n l) (omega arith, (omega arith, omega arith))

      next : n ≡ year_length y → (y ≤ (day_after (y, n)).0) × InYear (day_after (y, n))
      next e = rw (next-year y n e) (omega arith, (omega arith, omega (arith, year-long (suc y))))

  -- WEEKDAYS FOLLOW EACH OTHER
  pub weekday-after : 1900 ≤ y → weekday_at (day_after (y, n)) ≡ (weekday_at (y, n) + 1) % 7
  weekday-after h = ⊎_elim next same (eq-or-lt_of_le inside.1)
    where
      same : n < year_length y → weekday_at (day_after (y, n)) ≡ (weekday_at (y, n) + 1) % 7
      same l = rw (same-year y n l) (unfold weekday_at weekday_from in omega (arith, inside))

      over : (first : ℕ) (leap : Bool) → ((first + cond leap 2 1) % 7 + (1 - 1)) % 7 ≡ ((first + (cond leap 366 365 - 1)) % 7 + 1) % 7
      over first true = omega arith
      over first false = omega arith

      next : n ≡ year_length y → weekday_at (day_after (y, n)) ≡ (weekday_at (y, n) + 1) % 7
      next e = rw (next-year y n e, e) (unfold weekday_at weekday_from year_length in rw (year-more y h) (over (new_year (y - 1900)) (is_leap y)))

-- ## Some days on, some days back
pub on-within : (k y n : ℕ) → n + k ≤ year_length y → times k day_after (y, n) ≡ (y, n + k)
unfolding times
on-within zero y n l = let e : n ≡ n + 0 = omega arith in rw (← e)
on-within (suc k) y n l =
    let e : suc n + k ≡ n + suc k = omega arith in
    ap (times k day_after) (same-year y n (omega arith)) ∙ on-within k y (suc n) (omega arith) ∙ rw e

pub on-over : (k y n : ℕ) → n ≤ year_length y → year_length y < n + k → k ≤ 365 → times k day_after (y, n) ≡ (suc y, n + k - year_length y)
unfolding times
on-over zero y n l h j = absurd (omega arith)
on-over (suc k) y n l h j = ⊎_elim next (λ q. same q (on-over k y (suc n) q (omega arith) (omega arith))) (eq-or-lt_of_le l)
  where
    same : n < year_length y → times k day_after (y, suc n) ≡ (suc y, suc n + k - year_length y)
        → times k day_after (day_after (y, n)) ≡ (suc y, n + suc k - year_length y)
    same q on = let e : suc n + k - year_length y ≡ n + suc k - year_length y = omega arith in ap (times k day_after) (same-year y n q) ∙ on ∙ rw e

    next : n ≡ year_length y → times k day_after (day_after (y, n)) ≡ (suc y, n + suc k - year_length y)
    next q =
        let e : 1 + k ≡ n + suc k - year_length y = omega arith in
        ap (times k day_after) (next-year y n q) ∙ on-within k (suc y) 1 (omega (arith, year-long (suc y))) ∙ rw e

pub back-within : (k y n : ℕ) → k < n → times k day_before (y, n) ≡ (y, n - k)
unfolding times
back-within zero y n l = let e : n ≡ n - 0 = omega arith in rw (← e)
back-within (suc k) y n l =
    let e : n - 1 - k ≡ n - suc k = omega arith in
    ap (times k day_before) (own-year y n (omega arith)) ∙ back-within k y (n - 1) (omega arith) ∙ rw e

pub back-over : (k y n : ℕ) → 1 ≤ n → n ≤ k → k ≤ 365 → times k day_before (y, n) ≡ (y - 1, year_length (y - 1) + n - k)
unfolding times
back-over zero y n l h j = absurd (omega arith)
back-over (suc k) y n l h j = ⊎_elim first (λ q. later q (back-over k y (n - 1) (omega (arith, q)) (omega arith) (omega arith))) (eq-or-lt_of_le l)
  where
    later : 1 < n → times k day_before (y, n - 1) ≡ (y - 1, year_length (y - 1) + (n - 1) - k)
        → times k day_before (day_before (y, n)) ≡ (y - 1, year_length (y - 1) + n - suc k)
    later q on =
        let e : year_length (y - 1) + (n - 1) - k ≡ year_length (y - 1) + n - suc k = omega arith in
        ap (times k day_before) (own-year y n q) ∙ on ∙ rw e

    first : 1 ≡ n → times k day_before (day_before (y, n)) ≡ (y - 1, year_length (y - 1) + n - suc k)
    first q =
        let e : year_length (y - 1) - k ≡ year_length (y - 1) + 1 - suc k = omega arith in
        rw (← q) (ap (times k day_before) (year-before y) ∙ back-within k (y - 1) (year_length (y - 1)) (omega (arith, year-long (y - 1))) ∙ rw e)
