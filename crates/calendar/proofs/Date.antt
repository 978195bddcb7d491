-- A date's numbers: years, months and days lie within their bounds, the day of the year within the year; how the code's loop sums the months
-- before; and one lemma for each return of `point_of`. Rests on the flags' laws and on the laws of days.
use mathlib.Core.Path.{◌≡◌, refl}
use mathlib.Core.List.{List, [], ◌∷◌}
use mathlib.Core.Bool.{Bool, true, false, ◌&&◌, cond}
use mathlib.Core.Option.{none, some}
use Prim.Native.Nat.{ℕ, zero, suc, ◌+◌, ◌-◌, ◌≤◌, ◌<◌}
use native.Mathlib.Numerals.{add-one}
use native.Mathlib.Omega.{arith}
use lib.Dec.{leb}
use lib.ListN.{length, get_or, take}
use borrow.Author.Tests.{leb-true, le-leb}
use Rattle.laws.specs.Lists.{sum}
use Rattle.laws.proofs.Flags.{split-and}
use Rattle.grid.specs.Cut.{holds}
use Rattle.grid.proofs.Cut.{holds-in, in-holds}
use Rattle.definition.specs.Rule.{month_bounds, year_bounds}
use Rattle.definition.specs.Date.{is_leap, month_lengths, month_length, is_date, day_of_year, year_length, weekday_at, weekday_of, week_at, week_of, point_of}
use Rattle.calendar.specs.Dated.{point_at}
use Rattle.calendar.specs.Days.{InYear}
use Rattle.calendar.proofs.Days.{year-long}

-- ## Days of the months before
pub sum-take-next : (xs : List ℕ) (k : ℕ) → k < length xs → sum (λ n. n) (take (suc k) xs) ≡ sum (λ n. n) (take k xs) + get_or xs k 0
unfolding sum
sum-take-next [] k h = absurd (omega arith)
sum-take-next (x ∷ xs) zero h = omega arith
sum-take-next (x ∷ xs) (suc k) h = omega (arith, sum-take-next xs k (omega arith))

-- the days after no month, after one more, and after all before this one
pub days-none : (day : ℕ) → day ≡ sum (λ n. n) [] + day
unfolding sum
days-none day = omega arith

pub days-next : (xs : List ℕ) (index days more day : ℕ) → index < length xs → days ≡ sum (λ n. n) (take index xs) + day → more ≡ get_or xs index 0
    → days + more ≡ sum (λ n. n) (take (index + 1) xs) + day
days-next xs index days more day l h e = rw (add-one index, sum-take-next xs index l) (omega arith)

pub days-all : (y m d passed days : ℕ) (leap : Bool) → leap ≡ is_leap y → passed ≡ m - 1 → days ≡ sum (λ n. n) (take passed (month_lengths leap)) + d
    → days ≡ day_of_year y m d
unfolding day_of_year
days-all y m d passed days leap f e h = rw (← f, ← e) h

sum-take-within : (xs : List ℕ) (k : ℕ) → sum (λ n. n) (take k xs) + get_or xs k 0 ≤ sum (λ n. n) xs
unfolding sum
sum-take-within [] zero = omega arith
sum-take-within [] (suc k) = omega arith
sum-take-within (x ∷ xs) zero = omega arith
sum-take-within (x ∷ xs) (suc k) = omega (arith, sum-take-within xs k)

year-sum : (leap : Bool) → sum (λ n. n) (month_lengths leap) ≤ 366
unfolding sum
year-sum true = omega arith
year-sum false = omega arith

-- the days so far, the months passed and a day, and one month more, are no more than a year and that day
pub days-so-far : (y d days index more : ℕ) → {leap : Bool} → leap ≡ is_leap y → more ≡ get_or (month_lengths leap) index 0
    → days ≡ sum (λ n. n) (take index (month_lengths leap)) + d → days + more ≤ 366 + d
unfolding sum
days-so-far y d days index more {leap} f e h = omega (arith, sum-take-within (month_lengths leap) index, year-sum leap)

-- the months have the year's days
pub year-days : (y : ℕ) → sum (λ n. n) (month_lengths (is_leap y)) ≡ year_length y
unfolding sum year_length
year-days y = go (is_leap y)
  where
    go : (leap : Bool) → sum (λ n. n) (month_lengths leap) ≡ cond leap 366 365
    go true = refl
    go false = refl

-- ## A date
pub make-date : (y m d : ℕ) → (1900 ≤ y) × (y < 10000) → (1 ≤ m) × (m < 13) → (1 ≤ d) × (d ≤ month_length y m) → is_date y m d ≡ true
unfolding is_date
make-date y m d years months days =
    simp (
      in-holds y year_bounds years.0 years.1,
      in-holds m month_bounds months.0 months.1,
      le-leb 1 d days.0,
      le-leb d (month_length y m) days.1,
    )

module _ (y m d : ℕ) (h : is_date y m d ≡ true) where
  pub date-year : (1900 ≤ y) × (y < 10000)
  unfolding is_date
  date-year = holds-in y year_bounds (split-and (holds y year_bounds) (holds m month_bounds && (leb 1 d && leb d (month_length y m))) h).0

  rest : holds m month_bounds && (leb 1 d && leb d (month_length y m)) ≡ true
  unfolding is_date
  rest = (split-and (holds y year_bounds) (holds m month_bounds && (leb 1 d && leb d (month_length y m))) h).1

  pub date-month : (1 ≤ m) × (m < 13)
  date-month = holds-in m month_bounds (split-and (holds m month_bounds) (leb 1 d && leb d (month_length y m)) rest).0

  pub date-day : (1 ≤ d) × (d ≤ month_length y m)
  date-day =
      let k = split-and (leb 1 d) (leb d (month_length y m)) (split-and (holds m month_bounds) (leb 1 d && leb d (month_length y m)) rest).1 in
      (leb-true 1 d k.0, leb-true d (month_length y m) k.1)

  -- the day of the year lies in the year
  pub day-in-year : InYear (y, day_of_year y m d)
  unfolding day_of_year month_length
  day-in-year = omega (arith, date-day, sum-take-within (month_lengths (is_leap y)) (m - 1), year-days y)

  pub day-within : (d ≤ day_of_year y m d) × (day_of_year y m d ≤ 366)
  unfolding day_of_year
  day-within = (omega arith, omega (arith, day-in-year, year-long y))

-- ## The answer
pub point-some : (y m d n weekday week : ℕ) → is_date y m d ≡ true → n ≡ day_of_year y m d → weekday ≡ weekday_at (y, n) → week ≡ week_at (y, n)
    → some (weekday ∷ week ∷ m ∷ y ∷ []) ≡ point_at y m d
unfolding point_at point_of weekday_of week_of
point-some y m d n weekday week h e f g = rw (f, g, e, h)

pub point-none : (y m d : ℕ) → is_date y m d ≡ false → none ≡ point_at y m d
unfolding point_at
point-none y m d h = rw h
