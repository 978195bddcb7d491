-- What the writer of pages requires of a group's value, the number of its day.
use Rattle.std.specs.Prelude.{List, ℕ, ◌-◌, ◌≤◌}
use Rattle.laws.specs.Lists.{All}
use Rattle.definition.specs.Sheet.{Form}
use Rattle.day_flat.specs.Day.{unflat}
use Rattle.tables.specs.Days.{Carried, box_words, Ready}

-- it numbers a day, whose box can be folded and whose entries a sheet of the form can carry
abbrev pub DayReady : Form → List ℕ → List ℕ → List ℕ → List ℕ → ℕ → ℕ → Type 0
DayReady form states counts spans lists room v =
    (1 ≤ v) × Ready states counts spans lists room (v - 1) × All (Carried form) (unflat (box_words states counts spans lists (v - 1)))
