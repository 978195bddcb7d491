-- When a year has a day of some number: from 1 up to the year's length. Rests on definition's specs/Date.
use Rattle.std.specs.Prelude.{◌≤◌}
use Rattle.definition.specs.Date.{YearDay, year_length}

abbrev pub InYear : YearDay → Type 0
InYear a = (1 ≤ a.1) × (a.1 ≤ year_length a.0)
