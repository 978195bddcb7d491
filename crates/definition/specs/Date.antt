-- 01, "State lookup": "Dates are Gregorian, 1900 to 9999. .. Month lengths stand in two rows of twelve, common and leap. The weekday of
-- 1 January comes from a table of 400, one entry for each year of the Gregorian cycle".
-- 02, M-104: "Planners publish week numbers by ISO 8601, where week 1 holds the year's first Thursday. .. The lookup takes the ISO week
-- from now on. The year in the point stays the calendar year".
use Rattle.std.specs.Prelude.{List, [], ◌∷◌, Bool, true, false, ◌&&◌, ◌||◌, not, cond, ℕ, zero, suc, ◌+◌, ◌-◌, ◌%◌, eqb, leb, ltb, get_or, take}
use Rattle.laws.specs.Lists.{from, count, sum}
use Rattle.grid.specs.Cut.{holds}
use Rattle.definition.specs.Rule.{month_bounds, year_bounds}

-- every fourth year is a leap year, but of the full centuries only every fourth
unfoldable pub is_leap : ℕ → Bool
is_leap y = eqb (y % 4) 0 && (not (eqb (y % 100) 0) || eqb (y % 400) 0)

-- the lengths of January to December
abbrev pub month_lengths : Bool → List ℕ
month_lengths leap = 31 ∷ cond leap 29 28 ∷ 31 ∷ 30 ∷ 31 ∷ 30 ∷ 31 ∷ 31 ∷ 30 ∷ 31 ∷ 30 ∷ 31 ∷ []

unfoldable pub month_length : ℕ → ℕ → ℕ
month_length y m = get_or (month_lengths (is_leap y)) (m - 1) 0

unfoldable pub is_date : ℕ → ℕ → ℕ → Bool
is_date y m d = holds y year_bounds && (holds m month_bounds && (leb 1 d && leb d (month_length y m)))

-- the days of the months before, and those of this one
unfoldable pub day_of_year : ℕ → ℕ → ℕ → ℕ
day_of_year y m d = sum (λ n. n) (take (m - 1) (month_lengths (is_leap y))) + d

-- the weekday of 1 January, n years after 1900, Monday 0: 1 January 1900 was a Monday, and a year moves it on by one day, a leap
-- year by two
unfoldable pub new_year : ℕ → ℕ
new_year zero = 0
new_year (suc n) = (new_year n + cond (is_leap (1900 + n)) 2 1) % 7

-- the weekday of a year's nth day, where 1 January is `first`
unfoldable pub weekday_from : ℕ → ℕ → ℕ
weekday_from first n = (first + (n - 1)) % 7

-- ## Days, over the ends of years
-- a year, and a day of it, 1 January the first
abbrev pub YearDay : Type 0
YearDay = ℕ × ℕ

unfoldable pub year_length : ℕ → ℕ
year_length y = cond (is_leap y) 366 365

unfoldable pub day_after : YearDay → YearDay
day_after a = elim (ltb a.1 (year_length a.0)) [ true ↦ (a.0, suc a.1) | false ↦ (suc a.0, 1) ]

unfoldable pub day_before : YearDay → YearDay
day_before a = elim (ltb 1 a.1) [ true ↦ (a.0, a.1 - 1) | false ↦ (a.0 - 1, year_length (a.0 - 1)) ]

-- a step taken n times
unfoldable pub times : ℕ → (YearDay → YearDay) → YearDay → YearDay
times zero step a = a
times (suc n) step a = times n step (step a)

-- a day's weekday, Monday 0
unfoldable pub weekday_at : YearDay → ℕ
weekday_at a = weekday_from (new_year (a.0 - 1900)) a.1

unfoldable pub weekday_of : ℕ → ℕ → ℕ → ℕ
weekday_of y m d = weekday_at (y, day_of_year y m d)

-- ## Weeks, by ISO 8601
abbrev pub thursday : ℕ
thursday = 3

-- weeks go from Monday to Sunday: the Thursday comes 3, 2 or 1 days after the week's Monday, Tuesday or Wednesday, and 1, 2 or 3 days
-- before its Friday, Saturday or Sunday. A difference below 0 counts as 0, so the walk goes one way only.
unfoldable pub thursday_of : YearDay → YearDay
thursday_of a = times (thursday - weekday_at a) day_after (times (weekday_at a - thursday) day_before a)

-- how many of a year's first n days are Thursdays, where 1 January is `first`
unfoldable pub thursdays_among : ℕ → ℕ → ℕ
thursdays_among first n = count (λ k. eqb (weekday_from first k) thursday) (from 1 n)

-- how many Thursdays a year has had by the end of a day
unfoldable pub thursdays_by : YearDay → ℕ
thursdays_by a = thursdays_among (new_year (a.0 - 1900)) a.1

-- a week belongs to the year that its Thursday lies in, and "week 1 holds the year's first Thursday": so week k holds its kth
unfoldable pub week_at : YearDay → ℕ
week_at a = thursdays_by (thursday_of a)

unfoldable pub week_of : ℕ → ℕ → ℕ → ℕ
week_of y m d = week_at (y, day_of_year y m d)

-- the point of a date: "The year in the point stays the calendar year"
unfoldable pub point_of : ℕ → ℕ → ℕ → List ℕ
point_of y m d = weekday_of y m d ∷ week_of y m d ∷ m ∷ y ∷ []
