-- WHAT THE LOOKUP TELLS is what the drained rules say, and so what the folded rules say. Rests on the lookup's table of codes, on demand 3,
-- and on the calendar's law that a date has a week.
use mathlib.Core.Path.{◌≡◌, refl, sym, ap, ◌∙◌}
use mathlib.Core.List.{List, [], ◌∷◌, map}
use mathlib.Core.Bool.{true, cond}
use Prim.Native.Nat.{ℕ, ◌≤◌, ◌<◌}
use native.Mathlib.Omega.{arith}
use lib.Dec.{ltb}
use borrow.Author.Tests.{ltb-true}
use Rattle.laws.specs.Lists.{All}
use Rattle.laws.proofs.Flags.{split-and, both-and}
use Rattle.laws.proofs.Numbers.{from-inside}
use Rattle.grid.specs.Group.{inside}
use Rattle.grid.proofs.Cut.{holds-in}
use Rattle.definition.specs.Rule.{midnight24, week_bounds, kind_number, State, closed}
use Rattle.definition.specs.Sheet.{Form, Limits}
use Rattle.definition.specs.Stop.{drained}
use Rattle.definition.specs.Point.{list_at}
use Rattle.definition.specs.Day.{Stated, entry_of, flattened, simple, within, last_over}
use Rattle.definition.specs.Date.{is_date, day_of_year, weekday_of, week_of, point_of}
use Rattle.definition.specs.Lookup.{Looked, found, lookup}
use Rattle.definition.specs.Saying.{Cover, says}
use Rattle.calendar.proofs.Days.{weekday-within}
use Rattle.calendar.proofs.Date.{date-year, date-month}
use Rattle.calendar.proofs.Week.{week-within}
use Rattle.promises.specs.Meaning.{is_point}
use Rattle.promises.specs.Looking.{Tells, LookupSays, LookupSilent}
use Rattle.promises.proofs.Meaning.{folded-says}
use Rattle.promises.proofs.LookupCodes.{found-answer, refused-whole, lookup-codes}

-- simple spans cover their own minutes, whatever is chosen for others
last-simple : (c : Cover) (m : ℕ) (S : State) (xs : List Stated) → All (λ x. simple x.1 ≡ true) xs → last_over c.covers S xs m ≡ last_over within S xs m
unfolding last_over
last-simple c m S [] h = refl
last-simple c m S (x ∷ xs) h =
    last-simple c m (cond (c.covers x.1 m) x.0 S) xs h.1 ∙ ap (λ b. last_over within (cond b x.0 S) xs m) (c.on_simple x.1 h.0 m)

-- the point of a date is a point
date-point : (y mo d : ℕ) → is_date y mo d ≡ true → is_point (point_of y mo d) ≡ true
unfolding point_of inside weekday_of
date-point y mo d h =
    both-and _ _ (from-inside (weekday_of y mo d) 0 7 (omega arith) (weekday-within (y, day_of_year y mo d)))
    (both-and _ _ (from-inside (week_of y mo d) 1 53 (omega (arith, week)) (omega (arith, week)))
    (both-and _ _ (from-inside mo 1 12 (omega (arith, month)) (omega (arith, month)))
    (both-and _ _ (from-inside y 1900 8100 (omega (arith, year)) (omega (arith, year))) refl)))
  where
    week : (1 ≤ week_of y mo d) × (week_of y mo d < 54)
    week = holds-in (week_of y mo d) week_bounds (week-within y mo d h)

    month : (1 ≤ mo) × (mo < 13)
    month = date-month y mo d h

    year : (1900 ≤ y) × (y < 10000)
    year = date-year y mo d h

module _ (form : Form) (limits : Limits) (sheet : List ℕ) (y mo d m : ℕ) where
  abbrev answer : Looked
  answer = lookup form limits sheet y mo d m

  tells : (S T : State) → answer ≡ found S → T ≡ S → Tells answer T
  tells S T f e = (ap (λ g. g.kind) f ∙ ap (λ R. kind_number R.kind) (sym e), ap (λ g. g.comment) f ∙ ap (λ R. R.comment) (sym e))

  pub lookup-says : LookupSays form limits sheet y mo d m
  unfolding says
  lookup-says e =
      let k = (lookup-codes form limits sheet y mo d m 0 answer.place).only (e, refl) in
      let ds = drained k.0 in
      let p = point_of y mo d in
      let xs = flattened (map entry_of (list_at ds p)) in
      let S = last_over within closed xs m in
      let date = split-and (is_date y mo d) (ltb m midnight24) k.1 in
      let f = found-answer form limits sheet y mo d m k.0 k.1 k.2 k.3 in (
        k.0,
        k.2.0.0.0,
        λ c. let s = last-simple c m closed xs k.3.1 in
            (tells S _ f s, tells S _ f (folded-says ds (λ q. c) p (date-point y mo d date.0) m (ltb-true m midnight24 date.1) ∙ s)),
      )

  pub lookup-silent : LookupSilent form limits sheet y mo d m
  lookup-silent h = let e = refused-whole form limits sheet y mo d m h in (ap (λ g. g.kind) e, ap (λ g. g.comment) e)
