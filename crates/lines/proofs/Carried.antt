-- What the items of a rule that a sheet carries keep to, beside the bounds of its days: their steps and their times. Rests on the layouts' tests.
use mathlib.Core.Path.{◌≡◌}
use mathlib.Core.List.{[], ◌∷◌}
use mathlib.Core.Bool.{true, ◌&&◌, false≢true}
use Prim.Native.Nat.{ℕ, ◌^◌, ◌≤◌}
use lib.Dec.{leb, ltb}
use borrow.Author.Tests.{leb-true}
use Rattle.laws.proofs.Flags.{split-and, both-and}
use Rattle.grid.specs.Cut.{Range, holds}
use Rattle.definition.specs.Field.{field, ◌then◌, via, tagged}
use Rattle.definition.specs.Rule.{year_bounds, week_bounds, Time, fixed, variable, Span, YearRange, WeekRange}
use Rattle.definition.specs.Sheet.{year_range, week_range, time_of, time, span}
use Rattle.definition.specs.Day.{minute_of, no_repeats}
use Rattle.definition.specs.Line.{is_fixed, is_plain}
use Rattle.definition.proofs.Carried.{each-passes}

-- ## Steps
-- two ends and a step, each of so many bits: the step is from 1 up to what its bits hold
step-carried : (w v : ℕ) (bounds : Range) (x y step : ℕ)
    → ltb x (2 ^ w) && holds x bounds && (ltb y (2 ^ w) && holds y bounds && (ltb step (2 ^ v) && leb 1 step)) ≡ true → holds step (1, 2 ^ v) ≡ true
step-carried w v bounds x y step f =
    let k = each-passes ((ltb x (2 ^ w) && holds x bounds) ∷ (ltb y (2 ^ w) && holds y bounds) ∷ ltb step (2 ^ v) ∷ leb 1 step ∷ []) f in
    both-and (leb 1 step) (ltb step (2 ^ v)) k.1.1.1.0 k.1.1.0

pub year-step : (y : YearRange) → year_range.fits y ≡ true → holds y.step (1, 2 ^ 16) ≡ true
unfolding year_range via ◌then◌ field
year-step y f = step-carried 14 16 year_bounds y.start y.end y.step f

pub week-step : (w : WeekRange) → week_range.fits w ≡ true → holds w.step (1, 2 ^ 8) ≡ true
unfolding week_range via ◌then◌ field
week-step w f = step-carried 6 8 week_bounds w.start w.end w.step f

-- ## Times
time-carried : (t : Time) → time.fits t ≡ true → is_fixed t ≡ true → minute_of t ≤ 2880
unfolding time tagged time_of via field
time-carried (fixed m) f h = leb-true m 2880 (split-and (ltb m (2 ^ 12)) (leb m 2880) (split-and true (ltb m (2 ^ 12) && leb m 2880) f).1).1
time-carried (variable e o) f h = absurd (false≢true h)

-- a span between fixed times ends by 48:00, and begins no later
pub span-carried : (s : Span) → span.fits s ≡ true → is_plain s ≡ true → (minute_of s.start ≤ 2880) × (minute_of s.end ≤ 2880)
unfolding span via ◌then◌
span-carried s f h =
    let p = split-and (is_fixed s.start) (is_fixed s.end && no_repeats s.repeats) h in
    let q = split-and (is_fixed s.end) (no_repeats s.repeats) p.1 in
    let a = split-and (time.fits s.start) _ f in
    (time-carried s.start a.0 p.0, time-carried s.end (split-and (time.fits s.end) _ a.1).0 q.0)
