-- `calendar::month_length` meets its contract: the two rows are `month_lengths` of common and of leap years.
use mathlib.Core.Path.{◌≡◌}
use mathlib.Core.List.{[], ◌∷◌}
use mathlib.Core.Bool.{Bool, true, false}
use Prim.Native.Nat.{ℕ, ◌<◌}
use native.Mathlib.Omega.{arith}
use lib.ListN.{get_or}
use Rattle.std.specs.Int.{from_bool}
use Rattle.definition.specs.Date.{month_lengths}
use Rattle.calendar.proofs.month_length.Goals as goal

below_two : (leap : Bool) (n : ℕ) → n ≡ from_bool leap → n < 2
below_two true n e = omega arith
below_two false n e = omega arith

rows : (leap : Bool) (n k : ℕ) → n ≡ from_bool leap → get_or (get_or (month_lengths false ∷ month_lengths true ∷ []) n []) k 0 ≡ get_or (month_lengths leap) k 0
rows true n k e = rw e
rows false n k e = rw e

pub offset_bounds-from : goal.offset_bounds-from
offset_bounds-from c =
    omega (arith, below_two c.args.leap _ c.from.ensures)

pub bounds-from : goal.bounds-from
bounds-from c =
    below_two c.args.leap _ c.from.ensures

pub returns : goal.returns
returns c =
    rows c.args.leap _ c.args.index c.from.ensures
