-- The day after a date: in the same month; else the first of the next month; else 1 January of the next year.
use Rattle.std.specs.Prelude.{true, false, ℕ, suc, ltb}
use Rattle.definition.specs.Date.{month_length}

-- a year, a month and a day
abbrev pub Date : Type 0
Date = ℕ × ℕ × ℕ

unfoldable pub next : ℕ → ℕ → ℕ → Date
next y m d = elim (ltb d (month_length y m)) [ true ↦ (y, m, suc d) | false ↦ elim (ltb m 12) [ true ↦ (y, suc m, 1) | false ↦ (suc y, 1, 1) ] ]
