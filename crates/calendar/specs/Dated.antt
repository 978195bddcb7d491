-- What the calendar answers for a year, a month and a day: the point of the date, or none. Rests on definition's specs/Date.
use Rattle.std.specs.Prelude.{Option, Some, None, List, [], ◌∷◌, ℕ}
use Rattle.std.proofs.Math.Option as maybe
use Rattle.laws.specs.Lists.{only_if}
use Rattle.definition.specs.Date.{is_date, point_of}
use Rattle.calendar.specs.declared.Point.{Point}

-- a point, as the definition has it
abbrev pub point_list : Point → List ℕ
point_list p = p.weekday ∷ p.week ∷ p.month ∷ p.year ∷ []

abbrev pub point_in : Option Point → maybe.Option (List ℕ)
point_in (Some p) = maybe.some (point_list p)
point_in None = maybe.none

unfoldable pub point_at : ℕ → ℕ → ℕ → maybe.Option (List ℕ)
point_at y m d = only_if (is_date y m d) (point_of y m d)
