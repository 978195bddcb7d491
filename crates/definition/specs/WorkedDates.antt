-- THE WORKED DATES, one table of cases under one statement: the points of days around new years, 4 January of some years, and both ends of the
-- calendar.
use Rattle.std.specs.Prelude.{◌≡◌, List, [], ◌∷◌, ◌++◌, ℕ}
use Rattle.definition.specs.Date.{point_of}

-- a date, its weekday, Monday 0, and its week
pub record Case : Type 0 where
  pub year : ℕ
  pub month : ℕ
  pub day : ℕ
  pub weekday : ℕ
  pub week : ℕ

abbrev dated : ℕ → ℕ → ℕ → ℕ → ℕ → Case
dated y m d weekday week = record { year = y; month = m; day = d; weekday = weekday; week = week }

-- THE STATEMENT
abbrev pub Worked : Case → Type 0
Worked c = point_of c.year c.month c.day ≡ c.weekday ∷ c.week ∷ c.month ∷ c.year ∷ []

-- 02: "1 January 2027, a Friday .. that day is week 53, January, 2027". The day before is the last Thursday of 2026, its 53rd.
abbrev new_year2027 : List Case
new_year2027 = dated 2026 12 31 3 53 ∷ dated 2027 1 1 4 53 ∷ []

-- week 1 may begin in December: the Monday of 30 December 2024 has its Thursday on 2 January.
abbrev new_year2025 : List Case
new_year2025 = dated 2024 12 29 6 52 ∷ dated 2024 12 30 0 1 ∷ []

-- and the last week may end in January: 2020 has 53 weeks, 2022 has 52.
abbrev last_weeks : List Case
last_weeks = dated 2020 12 31 3 53 ∷ dated 2021 1 3 6 53 ∷ dated 2023 1 1 6 52 ∷ []

-- 4 January is in week 1, whatever its weekday.
abbrev fourths_of_january : List Case
fourths_of_january = dated 1900 1 4 3 1 ∷ dated 2000 1 4 1 1 ∷ dated 2021 1 4 0 1 ∷ dated 2026 1 4 6 1 ∷ []

-- 1 January 1900 is a Monday and 31 December 9999 a Friday: their weeks' Thursdays lie in 1900 and in 9999.
abbrev ends : List Case
ends = dated 1900 1 1 0 1 ∷ dated 9999 12 31 4 52 ∷ []

-- the table
abbrev pub cases : List Case
cases = new_year2027 ++ new_year2025 ++ last_weeks ++ fourths_of_january ++ ends
