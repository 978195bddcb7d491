-- THE WORKED DATES, computed.
use mathlib.Core.Path.{◌≡◌, refl}
use mathlib.Core.List.{[], ◌∷◌}
use mathlib.Core.Bool.{Bool, true}
use lib.Dec.{eqb}
use Rattle.laws.specs.Lists.{from, every, count, sum, All}
use Rattle.laws.specs.Tests.{same_list}
use Rattle.laws.proofs.Lists.{every-all}
use Rattle.laws.proofs.Tests.{exact-eqb, exact-list}
use Rattle.definition.specs.Date.{is_leap, day_of_year, new_year, weekday_from, year_length, day_after, day_before, times, weekday_at, weekday_of, thursday_of, thursdays_among, thursdays_by, week_at, week_of, point_of}
use Rattle.definition.specs.WorkedDates.{Case, Worked, cases}

agrees : Case → Bool
agrees c = same_list eqb (point_of c.year c.month c.day) (c.weekday ∷ c.week ∷ c.month ∷ c.year ∷ [])

computed : every agrees cases ≡ true
unfolding agrees every same_list from count sum is_leap day_of_year new_year weekday_from year_length day_after day_before times weekday_at weekday_of
    thursday_of thursdays_among thursdays_by week_at week_of point_of
computed = refl

-- each point as its case says
pub worked : All Worked cases
unfolding agrees
worked = every-all Worked agrees (λ c. (exact-list exact-eqb).equal _ _) cases computed
