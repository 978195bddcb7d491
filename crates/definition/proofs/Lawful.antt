-- A rule that a sheet carries has its items within each dimension's bounds, and so its ranges. Rests on the layouts' tests.
use mathlib.Core.Path.{◌≡◌, refl}
use mathlib.Core.List.{List, [], ◌∷◌}
use mathlib.Core.Bool.{Bool, true, false, ◌&&◌}
use Prim.Native.Nat.{ℕ, suc, ◌≤◌, ◌<◌, ◌^◌}
use native.Mathlib.Omega.{arith}
use lib.Dec.{eqb, ltb, leb}
use lib.ListN.{length}
use borrow.Author.Tests.{eqb-true}
use Rattle.laws.specs.Lists.{every, All}
use Rattle.laws.proofs.Flags.{split-and}
use Rattle.laws.proofs.Lists.{All-map, All-image, every-all}
use Rattle.laws.proofs.Spread.{flat_map-all}
use Rattle.grid.specs.Cut.{Range, holds}
use Rattle.grid.proofs.Cut.{Inside, holds-in}
use Rattle.definition.specs.Field.{Layout, field, ◌then◌, via, tagged, several}
use Rattle.definition.specs.Rule.{weekday_bounds, week_bounds, month_bounds, year_bounds, YearRange, MonthdayRange, months, months_of, dated, WeekRange, WeekDayRange, fixed_days, holiday, Rule}
use Rattle.definition.specs.Sheet.{Form, Limits, year_range, monthday_of, monthday_range, week_range, weekday_of, week_day_range, span, body, head, head_of, rule, opening, rules}
use Rattle.definition.specs.Range.{Ends, split, ranges}
use Rattle.definition.specs.Point.{Dimension, weekday_dimension, week_dimension, month_dimension, year_dimension, dimensions, month_ends, weekday_ends}

-- both ends of an item lie in the bounds
abbrev pub Bounded : Range → Ends → Type 0
Bounded b e = (holds e.0 b ≡ true) × (holds e.1 b ≡ true)

abbrev pub LawfulIn : Rule → Dimension → Type 0
LawfulIn r d = All (Bounded d.bounds) (d.items r)

abbrev pub Lawful : Rule → Type 0
Lawful r = All (LawfulIn r) dimensions

-- ## Ranges of bounded items lie within the bounds
pub split-inside : (b : Range) (e : Ends) → Bounded b e → All (Inside b) (split b e)
unfolding split
split-inside b e h = go (ltb e.0 (suc e.1)) refl
  where
    lo : (b.0 ≤ e.0) × (e.0 < b.1)
    lo = holds-in e.0 b h.0

    hi : (b.0 ≤ e.1) × (e.1 < b.1)
    hi = holds-in e.1 b h.1

    go : (t : Bool) → ltb e.0 (suc e.1) ≡ t → All (Inside b) (split b e)
    go true k = rw (k, split) (omega (arith, lo, hi))
    go false k = rw (k, split) (omega (arith, lo, hi))

pub ranges-inside : (b : Range) → b.0 < b.1 → (es : List Ends) → All (Bounded b) es → All (Inside b) (ranges b es)
unfolding ranges
ranges-inside b proper [] h = omega arith
ranges-inside b proper (e ∷ es) h = flat_map-all (Inside b) (split b) (e ∷ es) (All-map (λ f k. split-inside b f k) (e ∷ es) h)

-- ## A rule that fits is lawful
-- two lawful fields at the front of an item
ends-lawful : (w : ℕ) (b : Range) (m n : ℕ) → ltb m (2 ^ w) && holds m b ≡ true → ltb n (2 ^ w) && holds n b ≡ true → Bounded b (m, n)
ends-lawful w b m n f g = ((split-and (ltb m (2 ^ w)) (holds m b) f).1, (split-and (ltb n (2 ^ w)) (holds n b) g).1)

pub year-lawful : (y : YearRange) → year_range.fits y ≡ true → Bounded year_bounds (y.start, y.end)
unfolding year_range via ◌then◌ field
year-lawful y f =
    let k =
    split-and (ltb y.start (2 ^ 14) && holds y.start year_bounds)
    (ltb y.end (2 ^ 14) && holds y.end year_bounds && (ltb y.step (2 ^ 16) && leb 1 y.step)) f in
    ends-lawful 14 year_bounds y.start y.end k.0
    (split-and (ltb y.end (2 ^ 14) && holds y.end year_bounds) (ltb y.step (2 ^ 16) && leb 1 y.step) k.1).0

pub week-lawful : (w : WeekRange) → week_range.fits w ≡ true → Bounded week_bounds (w.start, w.end)
unfolding week_range via ◌then◌ field
week-lawful w f =
    let k =
    split-and (ltb w.start (2 ^ 6) && holds w.start week_bounds)
    (ltb w.end (2 ^ 6) && holds w.end week_bounds && (ltb w.step (2 ^ 8) && leb 1 w.step)) f in
    ends-lawful 6 week_bounds w.start w.end k.0
    (split-and (ltb w.end (2 ^ 6) && holds w.end week_bounds) (ltb w.step (2 ^ 8) && leb 1 w.step) k.1).0

pub month-lawful : (m : MonthdayRange) → monthday_range.fits m ≡ true → All (Bounded month_bounds) (month_ends m)
unfolding monthday_range tagged monthday_of via ◌then◌ field
month-lawful (months a b) f =
    let k = (split-and true (ltb a (2 ^ 4) && holds a month_bounds && (ltb b (2 ^ 4) && holds b month_bounds)) f).1 in
    let l = split-and (ltb a (2 ^ 4) && holds a month_bounds) (ltb b (2 ^ 4) && holds b month_bounds) k in
    (ends-lawful 4 month_bounds a b l.0 l.1, tt)
month-lawful (months_of a b y) f = tt
month-lawful (dated r) f = tt

pub weekday-lawful : (d : WeekDayRange) → week_day_range.fits d ≡ true → All (Bounded weekday_bounds) (weekday_ends d)
unfolding week_day_range tagged weekday_of via ◌then◌ field
weekday-lawful (fixed_days a b o s e) f =
    let rest = ltb o (2 ^ 16) && true && (ltb s (2 ^ 5) && true && (ltb e (2 ^ 5) && true)) in
    let k = (split-and true (ltb a (2 ^ 3) && holds a weekday_bounds && (ltb b (2 ^ 3) && holds b weekday_bounds && rest)) f).1 in
    let l = split-and (ltb a (2 ^ 3) && holds a weekday_bounds) (ltb b (2 ^ 3) && holds b weekday_bounds && rest) k in
    (ends-lawful 3 weekday_bounds a b l.0 (split-and (ltb b (2 ^ 3) && holds b weekday_bounds) rest l.1).0, tt)
weekday-lawful (holiday k o) f = tt

-- a list that fits n of them: its length, and every item
several-fits : {A : Type 0} (L : Layout A) (n : ℕ) (xs : List A) → (several n L).fits xs ≡ true → (length xs ≡ n) × (every L.fits xs ≡ true)
unfolding several
several-fits L n xs f = let k = split-and (eqb (length xs) n) (every L.fits xs) f in (eqb-true (length xs) n k.0, k.1)

module _ (form : Form) (limits : Limits) where
  -- a rule's items fit, sort by sort
  pub record ItemsFit (r : Rule) : Type 0 where
    pub years-fit : every year_range.fits r.years ≡ true
    pub monthdays-fit : every monthday_range.fits r.monthdays ≡ true
    pub weeks-fit : every week_range.fits r.weeks ≡ true
    pub weekdays-fit : every week_day_range.fits r.weekdays ≡ true
    pub spans_fit : every span.fits r.spans ≡ true

  pub items-fit : (r : Rule) → (rule form limits).fits r ≡ true → ItemsFit r
  unfolding rule tagged via body ◌then◌
  items-fit r f =
      let e = (several (length r.spans) span).fits r.spans in
      let d = (several (length r.weekdays) week_day_range).fits r.weekdays in
      let c = (several (length r.weeks) week_range).fits r.weeks in
      let b = (several (length r.monthdays) monthday_range).fits r.monthdays in
      let a = (several (length r.years) year_range).fits r.years in
      let k = (split-and ((head form limits).fits (head_of r)) (a && (b && (c && (d && e)))) f).1 in
      let ka = split-and a (b && (c && (d && e))) k in
      let kb = split-and b (c && (d && e)) ka.1 in
      let kc = split-and c (d && e) kb.1 in
      let kd = split-and d e kc.1 in
      record {
        years-fit = (several-fits year_range _ r.years ka.0).1;
        monthdays-fit = (several-fits monthday_range _ r.monthdays kb.0).1;
        weeks-fit = (several-fits week_range _ r.weeks kc.0).1;
        weekdays-fit = (several-fits week_day_range _ r.weekdays kd.0).1;
        spans_fit = (several-fits span _ r.spans kd.1).1;
      }

  module _ (r : Rule) (f : (rule form limits).fits r ≡ true) where
    in-weekdays : LawfulIn r weekday_dimension
    in-weekdays = flat_map-all _ weekday_ends r.weekdays (every-all _ week_day_range.fits weekday-lawful r.weekdays (items-fit r f).weekdays-fit)

    in-weeks : LawfulIn r week_dimension
    in-weeks = All-image _ (λ w. (w.start, w.end)) r.weeks (every-all _ week_range.fits week-lawful r.weeks (items-fit r f).weeks-fit)

    in-months : LawfulIn r month_dimension
    in-months = flat_map-all _ month_ends r.monthdays (every-all _ monthday_range.fits month-lawful r.monthdays (items-fit r f).monthdays-fit)

    in-years : LawfulIn r year_dimension
    in-years = All-image _ (λ y. (y.start, y.end)) r.years (every-all _ year_range.fits year-lawful r.years (items-fit r f).years-fit)

    -- in whatever order the dimensions stand
    pub rule-lawful : Lawful r
    rule-lawful = search (in-weekdays, in-weeks, in-months, in-years)

  -- rules that a sheet carries fit one by one, and are lawful
  pub rules-each : (rs : List Rule) → (rules form limits).fits rs ≡ true → every (rule form limits).fits rs ≡ true
  unfolding rules tagged
  rules-each rs f =
      (several-fits (rule form limits) (length rs) rs
      (split-and ((opening form limits).fits (length rs)) ((several (length rs) (rule form limits)).fits rs) f).1).1

  pub rules-lawful : (rs : List Rule) → (rules form limits).fits rs ≡ true → All Lawful rs
  rules-lawful rs f = every-all Lawful (rule form limits).fits rule-lawful rs (rules-each rs f)
