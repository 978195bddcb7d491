-- THE POINT OF A DATE lies within all bounds; and what the calendar's answer says of the date. Rests on calendar's laws of a date's numbers.
use mathlib.Core.Path.{◌≡◌, refl, sym, ap, ◌∙◌, subst}
use mathlib.Core.Bool.{Bool, true, false}
use mathlib.Core.List.{List, []}
use mathlib.Core.Option.{Option, none, some}
use Prim.Native.Nat.{ℕ}
use native.Mathlib.Omega.{arith}
use Rattle.laws.specs.Lists.{only_if}
use Rattle.grid.proofs.Cut.{holds-in}
use Rattle.definition.specs.Rule.{week_bounds}
use Rattle.definition.specs.Point.{all_bounds}
use Rattle.definition.specs.Date.{is_date, day_of_year, weekday_of, week_of, point_of}
use Rattle.calendar.specs.Dated.{point_at}
use Rattle.calendar.proofs.Days.{weekday-within}
use Rattle.calendar.proofs.Date.{date-year, date-month}
use Rattle.calendar.proofs.Week.{week-within}
use Rattle.state_at.specs.Boxes.{InBounds}

pub date-bounds : (y m d : ℕ) → is_date y m d ≡ true → InBounds all_bounds (point_of y m d)
unfolding point_of weekday_of
date-bounds y m d h =
    let week = holds-in (week_of y m d) week_bounds (week-within y m d h) in
    let month = date-month y m d h in
    let year = date-year y m d h in
    (omega arith, weekday-within (y, day_of_year y m d), (week.0, week.1, (month.0, month.1, (year.0, year.1, tt))))

-- ## The calendar's answer
is_point : Option (List ℕ) → Bool
is_point none = false
is_point (some q) = true

numbers_of : Option (List ℕ) → List ℕ
numbers_of none = []
numbers_of (some q) = q

answered-date : (y m d : ℕ) → is_point (point_at y m d) ≡ is_date y m d
unfolding point_at is_point
answered-date y m d = go (is_date y m d)
  where
    go : (b : Bool) → is_point (only_if b (point_of y m d)) ≡ b
    go true = refl
    go false = refl

-- a point is the date's
pub point-dated : (y m d : ℕ) (q : List ℕ) → some q ≡ point_at y m d → (is_date y m d ≡ true) × (q ≡ point_of y m d) × InBounds all_bounds q
unfolding point_at is_point numbers_of
point-dated y m d q h =
    let e : is_date y m d ≡ true = sym (answered-date y m d) ∙ sym (ap is_point h) in
    let same : q ≡ point_of y m d = ap numbers_of (h ∙ ap (λ b. only_if b (point_of y m d)) e) in
    (e, same, subst (InBounds all_bounds) (sym same) (date-bounds y m d e))

-- and none is given where there is no date
pub point-missing : (y m d : ℕ) → none ≡ point_at y m d → is_date y m d ≡ false
unfolding is_point
point-missing y m d h = sym (answered-date y m d) ∙ sym (ap is_point h)
