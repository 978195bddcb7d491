-- `calendar::day_of_year` meets its contract. The loop's invariant: the sum is the days of the months passed, and the day.
use native.Mathlib.Omega.{arith}
use Rattle.definition.specs.Date.{month_lengths}
use Rattle.calendar.proofs.Date.{date-month, day-within, days-none, days-next, days-all, days-so-far}
use Rattle.calendar.proofs.day_of_year.Goals as goal

pub overflow_sub-passed : goal.overflow_sub-passed
overflow_sub-passed c =
    omega (arith, date-month _ _ _ c.requires)

pub overflow_cast-days : goal.overflow_cast-days
overflow_cast-days c =
    omega (arith, day-within _ _ _ c.requires)

pub loop-index-init : goal.loop-index-init
loop-index-init c =
    days-none c.args.day

pub month_length-requires : goal.month_length-requires
month_length-requires c =
    omega (arith, date-month _ _ _ c.requires)

pub overflow_add-days : goal.overflow_add-days
overflow_add-days c =
    omega (arith, day-within _ _ _ c.requires, days-so-far c.args.year c.args.day _ c.loop-index.index _ c.is_leap-leap.ensures c.month_length.ensures c.loop-index.invariant)

pub loop-index-preserved : goal.loop-index-preserved
loop-index-preserved c =
    let at = c.loop-index in
    days-next (month_lengths c.is_leap-leap.result) at.index _ _ _ (omega (arith, date-month _ _ _ c.requires)) at.invariant (omega (arith, c.month_length.ensures, c.from-days.ensures))

pub returns : goal.returns
returns c =
    days-all _ _ _ c.loop-index.index _ _ c.is_leap-leap.ensures (omega arith) c.loop-index.invariant
