-- `calendar::day_of_year` meets its contract. The loop's invariant: the sum is the days of the months passed, and the day.
use mathlib.Core.Path.{◌≡◌}
use Prim.Native.Nat.{◌+◌}
use lib.ListN.{take}
use Rattle.laws.specs.Lists.{sum}
use Rattle.definition.specs.Date.{month_lengths}
use Rattle.calendar.proofs.day_of_year.Given as goal

abbrev pub invariant-loop-index : goal.invariant-loop-index
invariant-loop-index l = l.days ≡ sum (λ n. n) (take l.index (month_lengths l.leap)) + l.day
