-- What a writer requires and what it leaves: bits stored in a buffer from a place on, every other bit as it was, and the place after
-- them. And the items of days that the fold writes: "step 1, offset 0, nth bits all 1".
use Rattle.std.specs.Prelude.{◌≡◌, List, ℕ, ◌+◌, ◌*◌, ◌≤◌, ◌<◌, ◌^◌, length}
use Rattle.std.proofs.lemmas.List.Edits.{sets}
use Rattle.definition.specs.Field.{bits, sheet_bits}
use Rattle.definition.specs.Rule.{YearRange, WeekRange, WeekDayRange, fixed_days}
use Rattle.definition.specs.Stop.{every_nth}

-- a number that a field of some bits can carry
abbrev pub Fits : ℕ → ℕ → Type 0
Fits width value = (width ≤ 56) × (value < 2 ^ width)

-- a number in some bits that carries a row of so many
pub record Carries (width value wide : ℕ) (row : List ℕ) : Type 0 where
  pub spans : width ≡ wide
  pub fits : Fits width value
  pub says : bits width value ≡ row

-- a buffer of so many bytes has room for some bits from a place on, and places fit a machine word
pub record RoomFor (size at : ℕ) (new : List ℕ) : Type 0 where
  pub inside : at + length new ≤ 8 * size
  pub low : at + length new < 2 ^ 62

pub record Wrote (old : List ℕ) (at : ℕ) (new : List ℕ) (out : List ℕ) (next : ℕ) : Type 0 where
  pub behind : next ≡ at + length new
  pub stored : sheet_bits out ≡ sets (sheet_bits old) at new

-- ## Items
abbrev pub years_from : ℕ → ℕ → YearRange
years_from start end = record { start = start; end = end; step = 1 }

abbrev pub weeks_from : ℕ → ℕ → WeekRange
weeks_from start end = record { start = start; end = end; step = 1 }

abbrev pub days_from : ℕ → ℕ → WeekDayRange
days_from start end = fixed_days start end 0 every_nth every_nth
