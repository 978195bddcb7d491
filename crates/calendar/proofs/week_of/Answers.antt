-- `calendar::week_of` meets its contract: the Thursday lies in its year, so nothing wraps and the week fits; `week-number` counts it.
use native.Mathlib.Omega.{arith}
use Rattle.calendar.proofs.Thursday.{is-thursday}
use Rattle.calendar.proofs.Week.{week-number, week-bounds}
use Rattle.calendar.proofs.week_of.Goals as goal

pub overflow_sub-result : goal.overflow_sub-result
overflow_sub-result c =
    omega (arith, is-thursday _ _ c.requires.1 c.requires.0)

pub overflow_cast-result : goal.overflow_cast-result
overflow_cast-result c =
    omega (arith, week-number _ _ c.requires.1 c.requires.0, week-bounds _ _ c.requires.1 c.requires.0)

pub returns : goal.returns
returns c =
    omega (arith, week-number _ _ c.requires.1 c.requires.0)
