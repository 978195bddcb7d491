-- WHAT THE FOLD WRITES FITS THE LAYOUT, read with the limits of the counts' own widths: the ends of its items lie within the bounds, its
-- states are those of the sheet's rules, its spans theirs or painted runs, and its counts fit. Rests on the laws of counts and of days.
use mathlib.Core.Path.{◌≡◌, refl}
use mathlib.Core.List.{List, [], ◌∷◌, map}
use mathlib.Core.Bool.{Bool, true, false, ◌&&◌}
use Prim.Native.Nat.{ℕ, suc, ◌-◌, ◌^◌, ◌≤◌, ◌<◌}
use native.Mathlib.Omega.{arith}
use lib.Dec.{eqb, ltb, leb}
use lib.ListN.{length}
use lib.Pow.{pow_pos}
use borrow.Author.Tests.{lt-ltb, le-leb, eq-eqb}
use Rattle.laws.specs.Lists.{keep, every, All}
use Rattle.laws.proofs.Flags.{both-and}
use Rattle.laws.proofs.Lists.{All-map, All-keep, All-image, all-every}
use Rattle.laws.proofs.Numbers.{All-from}
use Rattle.grid.specs.Group.{Set}
use Rattle.grid.specs.Cut.{Range, holds, coordinates, glue, runs}
use Rattle.grid.proofs.Part.{Part}
use Rattle.grid.proofs.Interval.{Rising}
use Rattle.grid.proofs.Cut.{in-holds, holds-in}
use Rattle.definition.specs.Field.{no_bits, field, ◌then◌, via, tagged, several}
use Rattle.definition.specs.Rule.{year_bounds, month_bounds, week_bounds, weekday_bounds, Operator, Normal, Additional, Fallback, operator_number, Kind, Open, Closed, Unknown, kind_number, months, fixed_days, Rule}
use Rattle.definition.specs.Range.{Ends}
use Rattle.definition.specs.Sheet.{Form, Limits, most_items, year_range, monthday_of, monthday_range, week_range, weekday_of, week_day_range, time_of, time, repeats_of, repeats_layout, span, title, counts, head, body, rule}
use Rattle.definition.specs.Stop.{every_nth}
use Rattle.definition.specs.Point.{dimensions, points}
use Rattle.definition.specs.Day.{Entry, plain_span}
use Rattle.definition.specs.Group.{items_of, laid_over, as_rule}
use Rattle.definition.proofs.PaintedShows.{ProperRun}
use Rattle.definition.proofs.Lawful.{Bounded, ItemsFit}
use Rattle.definition.proofs.RuleCounts.{Sized}
use Rattle.promises.specs.ReadBack.{widest}
use Rattle.promises.proofs.Items.{kept-climb, runs-rising}

-- ## The ends of items
-- runs that end at the top or before
glue-below : (top x : ℕ) (rs : List Range) → x < top → All (λ r. r.1 ≤ top) rs → All (λ r. r.1 ≤ top) (glue (x, suc x) rs)
unfolding glue
glue-below top x [] h a = (h, tt)
glue-below top x (j ∷ rs) h a = go (eqb (suc x) j.0) refl
  where
    go : (b : Bool) → eqb (suc x) j.0 ≡ b → All (λ r. r.1 ≤ top) (glue (x, suc x) (j ∷ rs))
    go true e = rw (e, glue) (a.0, a.1)
    go false e = rw (e, glue) (h, a)

runs-below : (top : ℕ) (E : List ℕ) → All (λ x. x < top) E → All (λ r. r.1 ≤ top) (runs E)
unfolding runs
runs-below top [] h = tt
runs-below top (x ∷ E) h = glue-below top x (runs E) h.0 (runs-below top E h.1)

ends-bounded : (b : Range) (lo : ℕ) (rs : List Range) → b.0 ≤ lo → Rising lo rs → All (λ r. r.1 ≤ b.1) rs → All (Bounded b) (map (λ q. (q.0, q.1 - 1)) rs)
ends-bounded b lo [] l r h = tt
ends-bounded b lo (q ∷ rs) l r h = (
  (in-holds q.0 b (omega (arith, r.0)) (omega (arith, r.1, h.0)), in-holds (q.1 - 1) b (omega (arith, r.0, r.1)) (omega (arith, r.1, h.0))),
  ends-bounded b q.1 rs (omega (arith, r.0, r.1)) r.2 h.1,
)

items-bounded : (b : Range) (t : ℕ → Bool) → b.0 < b.1 → All (Bounded b) (items_of b (runs (keep t (coordinates b))))
unfolding items_of
items-bounded b t proper =
    go (runs E) (runs-rising b.0 E (kept-climb t b.0 (b.1 - b.0)))
    (runs-below b.1 E (All-keep (λ x. x < b.1) t (coordinates b) (All-from (λ x. x < b.1) b.0 (b.1 - b.0) (λ x l k. omega arith))))
  where
    E : List ℕ
    E = keep t (coordinates b)

    go : (rs : List Range) → Rising b.0 rs → All (λ r. r.1 ≤ b.1) rs → All (Bounded b) (items_of b rs)
    go [] r h = tt
    go (q ∷ rs) r h = pick (eqb q.0 b.0 && eqb q.1 b.1) refl
      where
        pick : (v : Bool) → eqb q.0 b.0 && eqb q.1 b.1 ≡ v → All (Bounded b) (items_of b (q ∷ rs))
        pick true e = rw (e, items_of) tt
        pick false e = rw (e, items_of) (ends-bounded b b.0 (q ∷ rs) (omega arith) r h)

-- ## Items that fit
every_made : {A : Type 0} (make : Ends → A) (fits : A → Bool) (b : Range) → ((e : Ends) → Bounded b e → fits (make e) ≡ true) → (es : List Ends)
    → All (Bounded b) es
    → every fits (map make es) ≡ true
every_made make fits b h es k = all-every fits (map make es) (All-image (λ x. fits x ≡ true) make es (All-map h es k))

-- a lawful field's value fits where its width carries the bounds
within : (b : Range) (n v : ℕ) → b.1 ≤ n → holds v b ≡ true → ltb v n && holds v b ≡ true
within b n v l h = both-and (ltb v n) (holds v b) (lt-ltb v n (omega (arith, l, holds-in v b h))) h

year-fits : (e : Ends) → Bounded year_bounds e → year_range.fits (record { start = e.0; end = e.1; step = 1 }) ≡ true
unfolding year_range via ◌then◌ field
year-fits e h = rw (within year_bounds (2 ^ 14) e.0 (omega arith) h.0, within year_bounds (2 ^ 14) e.1 (omega arith) h.1)

month-fits : (e : Ends) → Bounded month_bounds e → monthday_range.fits (months e.0 e.1) ≡ true
unfolding monthday_range tagged monthday_of via ◌then◌ field
month-fits e h = rw (within month_bounds (2 ^ 4) e.0 (omega arith) h.0, within month_bounds (2 ^ 4) e.1 (omega arith) h.1)

week-fits : (e : Ends) → Bounded week_bounds e → week_range.fits (record { start = e.0; end = e.1; step = 1 }) ≡ true
unfolding week_range via ◌then◌ field
week-fits e h = rw (within week_bounds (2 ^ 6) e.0 (omega arith) h.0, within week_bounds (2 ^ 6) e.1 (omega arith) h.1)

weekday-fits : (e : Ends) → Bounded weekday_bounds e → week_day_range.fits (fixed_days e.0 e.1 0 every_nth every_nth) ≡ true
unfolding week_day_range tagged weekday_of via ◌then◌ field
weekday-fits e h = rw (within weekday_bounds (2 ^ 3) e.0 (omega arith) h.0, within weekday_bounds (2 ^ 3) e.1 (omega arith) h.1)

-- a painted run of minutes
pub plain_fits : (r : Range) → ProperRun r → span.fits (plain_span r) ≡ true
unfolding span time time_of repeats_layout repeats_of no_bits tagged via ◌then◌ field
plain_fits r h =
    rw (
      lt-ltb r.0 4096 (omega (arith, h.0, h.1)),
      le-leb r.0 2880 (omega (arith, h.0, h.1)),
      lt-ltb r.1 4096 (omega (arith, h.1)),
      le-leb r.1 2880 (omega (arith, h.1)),
    ) refl

-- ## Rules that fit
module _ (form : Form) (limits : Limits) where
  -- the items of a rule that is laid over a set
  pub laid-items : (S : Set ℕ) → Part points S → (o : Operator) (e : Entry) → every span.fits e.1 ≡ true
      → ItemsFit form limits (laid_over dimensions (map runs S) (as_rule o e))
  unfolding laid_over
  laid-items [] k o e h = absurd k
  laid-items (D ∷ []) k o e h = absurd k.1
  laid-items (D ∷ W ∷ []) k o e h = absurd k.1.1
  laid-items (D ∷ W ∷ M ∷ []) k o e h = absurd k.1.1.1
  laid-items (D ∷ W ∷ M ∷ Y ∷ Z ∷ S) k o e h = absurd k.1.1.1.1
  laid-items (D ∷ W ∷ M ∷ Y ∷ []) k o e h = record {
    years-fit = every_made _ year_range.fits year_bounds year-fits (items_of year_bounds (runs Y))
        (rw k.1.1.1.0.1 (items-bounded year_bounds k.1.1.1.0.0 (omega arith)));
    monthdays-fit = every_made _ monthday_range.fits month_bounds month-fits (items_of month_bounds (runs M))
        (rw k.1.1.0.1 (items-bounded month_bounds k.1.1.0.0 (omega arith)));
    weeks-fit = every_made _ week_range.fits week_bounds week-fits (items_of week_bounds (runs W))
        (rw k.1.0.1 (items-bounded week_bounds k.1.0.0 (omega arith)));
    weekdays-fit = every_made _ week_day_range.fits weekday_bounds weekday-fits (items_of weekday_bounds (runs D))
        (rw k.0.1 (items-bounded weekday_bounds k.0.0 (omega arith)));
    spans_fit = h;
  }

  count_fits : (n : ℕ) → n ≤ most_items form → ltb n (2 ^ form.item_count) && leb n (most_items form) ≡ true
  count_fits n l = both-and (ltb n (2 ^ form.item_count)) (leb n (most_items form)) (lt-ltb n (2 ^ form.item_count) (omega (arith, l, pow_pos form.item_count)))
      (le-leb n (most_items form) l)

  -- a rule whose comment, counts and items fit
  pub rule_fits : (r : Rule) → r.state.comment < 2 ^ form.comment → Sized (most_items form) (most_items form) r → ItemsFit form limits r
      → (rule form (widest form limits)).fits r ≡ true
  unfolding rule tagged head title counts body via ◌then◌ several field
  rule_fits r c s i =
      both-and _ _
      (both-and _ _ (both-and _ _ (operator-fits r.operator)
      (both-and _ _ (kind_fits r.state.kind) (both-and _ _ (lt-ltb r.state.comment (2 ^ form.comment) c) refl)))
      (both-and _ _ (count_fits (length r.years) s.years-few) (both-and _ _ (count_fits (length r.monthdays) s.monthdays-few)
      (both-and _ _ (count_fits (length r.weeks) s.weeks-few)
      (both-and _ _ (count_fits (length r.weekdays) s.weekdays-few) (count_fits (length r.spans) s.spans-few))))))
      (both-and _ _ (all year_range.fits r.years i.years-fit) (both-and _ _ (all monthday_range.fits r.monthdays i.monthdays-fit)
      (both-and _ _ (all week_range.fits r.weeks i.weeks-fit)
      (both-and _ _ (all week_day_range.fits r.weekdays i.weekdays-fit) (all span.fits r.spans i.spans_fit)))))
    where
      operator-fits : (o : Operator) → ltb (operator_number o) (2 ^ 2) && ltb (operator_number o) 3 ≡ true
      operator-fits Normal = refl
      operator-fits Additional = refl
      operator-fits Fallback = refl

      kind_fits : (k : Kind) → ltb (kind_number k) (2 ^ 2) && ltb (kind_number k) 3 ≡ true
      kind_fits Open = refl
      kind_fits Closed = refl
      kind_fits Unknown = refl

      all : {A : Type 0} (fits : A → Bool) (xs : List A) → every fits xs ≡ true → eqb (length xs) (length xs) && every fits xs ≡ true
      all fits xs h = both-and (eqb (length xs) (length xs)) (every fits xs) (eq-eqb (length xs) (length xs) refl) h
