-- `calendar::thursday_of` meets its contract: its three returns are those of the laws `thursday-before`, `thursday-same` and `thursday-next`. A
-- year has at most 366 days and weekdays end at 6, so nothing wraps.
use mathlib.Core.Path.{ap}
use Prim.Native.Nat.{◌-◌}
use native.Mathlib.Omega.{arith}
use Rattle.calendar.proofs.Days.{year-long, weekday-within}
use Rattle.calendar.proofs.Thursday.{thursday-same, thursday-before, thursday-next}
use Rattle.calendar.proofs.thursday_of.Goals as goal

pub overflow_add-days : goal.overflow_add-days
overflow_add-days c =
    omega (arith, year-long c.args.year)

pub overflow_add-result : goal.overflow_add-result
overflow_add-result c =
    omega (arith, year-long (c.args.year - 1), year-long c.args.year)

pub overflow_sub-result : goal.overflow_sub-result
overflow_sub-result c =
    omega (arith, year-long (c.args.year - 1), weekday-within (c.args.year, c.args.day))

pub returns-then-days-passed : goal.returns-then-days-passed
returns-then-days-passed c =
    let e = ap (λ t. t.1) (thursday-before c.args.year c.args.day c.requires.1 (omega arith)) in
    omega (arith, e)

pub returns-then-thursday-length : goal.returns-then-thursday-length
returns-then-thursday-length c =
    let e = ap (λ t. t.1) (thursday-same c.args.year c.args.day c.requires.1 (omega arith) (omega arith)) in
    omega (arith, e)

pub returns-else-thursday-length : goal.returns-else-thursday-length
returns-else-thursday-length c =
    let e = ap (λ t. t.1) (thursday-next c.args.year c.args.day c.requires.1 (omega arith)) in
    omega (arith, e)
