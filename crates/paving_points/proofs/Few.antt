-- HOW MANY RANGES: a rule that fits a sheet has few items in each dimension, so few ranges; so the cuts of some rules have room in rows whose
-- size grows with the number of rules. Rests on the layouts' tests.
use mathlib.Core.Path.{◌≡◌}
use mathlib.Core.Bool.{true}
use mathlib.Core.List.{List, [], ◌∷◌}
use Prim.Native.Nat.{ℕ, ◌+◌, ◌*◌, ◌≤◌}
use native.Mathlib.Omega.{arith}
use lib.ListN.{length, length-map}
use Rattle.laws.specs.Lists.{All}
use Rattle.laws.proofs.Lists.{All-map, All-each}
use Rattle.laws.proofs.Spread.{flat_map-length}
use Rattle.grid.specs.Cut.{Range}
use Rattle.definition.specs.Rule.{MonthdayRange, months, months_of, dated, WeekDayRange, fixed_days, holiday, Rule}
use Rattle.definition.specs.Sheet.{Form, Limits, rule}
use Rattle.definition.specs.Range.{Ends, split, ranges}
use Rattle.definition.specs.Point.{Dimension, dimensions, month_ends, weekday_ends}
use Rattle.definition.proofs.Carried.{counts-carried}
use Rattle.definition.proofs.Points.{split-few}
use Rattle.paving_cuts.specs.Rules.{Roomy}

-- ## Items
month-one : (m : MonthdayRange) → length (month_ends m) ≤ 1
month-one (months a b) = omega arith
month-one (months_of a b y) = omega arith
month-one (dated r) = omega arith

weekday-one : (d : WeekDayRange) → length (weekday_ends d) ≤ 1
weekday-one (fixed_days a b o s e) = omega arith
weekday-one (holiday k o) = omega arith

-- a rule that fits has no more items in a dimension than the limit
pub items-few : (form : Form) (limits : Limits) (r : Rule) → (rule form limits).fits r ≡ true → All (λ d. length (d.items r) ≤ limits.items) dimensions
items-few form limits r f =
    let few = counts-carried form limits r f in (
      omega (arith, few.weekdays-few, flat_map-length weekday_ends 1 r.weekdays (All-each _ weekday-one r.weekdays)),
      (
        omega (arith, few.weeks-few, length-map {B = Ends} r.weeks (λ w. (w.start, w.end))),
        (
          omega (arith, few.monthdays-few, flat_map-length month_ends 1 r.monthdays (All-each _ month-one r.monthdays)),
          (omega (arith, few.years-few, length-map {B = Ends} r.years (λ y. (y.start, y.end))), tt),
        ),
      ),
    )

-- ## Ranges
pub ranges-few : (b : Range) (es : List Ends) (n : ℕ) → 1 ≤ n → length es ≤ n → length (ranges b es) ≤ 2 * n
unfolding ranges
ranges-few b [] n o l = omega arith
ranges-few b (e ∷ es) n o l = omega (arith, flat_map-length (split b) 2 (e ∷ es) (All-each _ (split-few b) (e ∷ es)))

-- ROOM: both bounds, and for each rule twice the ranges that it has at most
pub rules-roomy : (room n : ℕ) (rs : List Rule) (ds : List Dimension) → All (λ r. All (λ d. length (ranges d.bounds (d.items r)) ≤ n) ds) rs
    → 2 + 2 * (length rs * n) ≤ room → Roomy room rs ds
rules-roomy room n rs [] h l = tt
rules-roomy room n rs (d ∷ ds) h l = (
  omega (arith, flat_map-length (λ r. ranges d.bounds (d.items r)) n rs (All-map (λ r k. k.0) rs h)),
  rules-roomy room n rs ds (All-map (λ r k. k.1) rs h) l,
)
