-- WHAT IS SHOWN HAS WORDS: rules that a sheet carries, where none is refused by 10, are a line. Rests on what a sheet's rules keep to.
use mathlib.Core.Path.{◌≡◌, refl, ap, subst}
use mathlib.Core.List.{List}
use mathlib.Core.Option.{none, some-ne-none}
use mathlib.Core.Bool.{Bool, true, false, ◌&&◌, not, cond, true≢false}
use Prim.Native.Nat.{ℕ, ◌/◌, ◌%◌, ◌^◌, ◌<◌, ◌≤◌}
use native.Mathlib.Omega.{arith}
use lib.Dec.{eqb}
use borrow.Author.Tests.{le-leb, eqb-false, not-false}
use Rattle.laws.specs.Lists.{every, any_of, All}
use Rattle.laws.proofs.Flags.{both-and, split-or}
use Rattle.laws.proofs.Lists.{All-map₂, every-all, all-every}
use Rattle.grid.specs.Cut.{Range, holds}
use Rattle.grid.proofs.Cut.{in-holds}
use Rattle.definition.specs.Rule.{weekday_bounds, week_bounds, month_bounds, year_bounds, State, Span, YearRange, MonthdayRange, months, months_of, dated, WeekRange, WeekDayRange, fixed_days, holiday, Rule}
use Rattle.definition.specs.Sheet.{Form, Limits, year_range, monthday_range, week_range, week_day_range, span, rule, rules}
use Rattle.definition.specs.Stop.{monthday_stops, weekday_stops}
use Rattle.definition.specs.Day.{minute_of}
use Rattle.definition.specs.Text.{Text, word, padded, plain, named, ◌then◌, of, unless, only, is_none, several}
use Rattle.definition.specs.Line.{Item, single, item, year_steps, week_steps, month_names, weekday_names, year_text, week_text, month_text, weekday_text, clock, is_plain, span_text, comments, is_open, state_text, part, rule_text, first_normal, line}
use Rattle.definition.specs.Show.{wordless, first_wordless}
use Rattle.definition.proofs.Lawful.{year-lawful, week-lawful, month-lawful, weekday-lawful, items-fit, rules-each}
use Rattle.lines.proofs.Carried.{year-step, week-step, span-carried}
use Rattle.laws.proofs.Passing.{none_passes, Found, first_found}

-- what is nothing where a test passes fits, if it fits elsewhere
unless-fits : (b f : Bool) → (b ≡ false → f ≡ true) → cond b true f ≡ true
unless-fits true f h = refl
unless-fits false f h = h refl

-- ## Items
item-fits : (T : Text ℕ) (steps : Range) (e : Item) → T.fits e.0 ≡ true → T.fits e.1.0 ≡ true → holds e.1.1 steps ≡ true
    → (item T steps).fits e ≡ true
unfolding item ◌then◌ of unless word plain
item-fits T steps e h k l =
    both-and (T.fits e.0) _ h (unless-fits (single e) _ (λ p. both-and (T.fits e.1.0) _ k (unless-fits (eqb e.1.1 1) _ (λ q. l))))

year-fits : (y : YearRange) → year_range.fits y ≡ true → year_text.fits y ≡ true
unfolding year_text of padded
year-fits y f = item-fits (padded 4 year_bounds) year_steps (y.start, (y.end, y.step)) (year-lawful y f).0 (year-lawful y f).1 (year-step y f)

week-fits : (w : WeekRange) → week_range.fits w ≡ true → week_text.fits w ≡ true
unfolding week_text of padded
week-fits w f = item-fits (padded 2 week_bounds) week_steps (w.start, (w.end, w.step)) (week-lawful w f).0 (week-lawful w f).1 (week-step w f)

month-fits : (m : MonthdayRange) → monthday_range.fits m ≡ true → monthday_stops m ≡ false → month_text.fits m ≡ true
unfolding month_text only of named
month-fits (months a b) f h = let k = (month-lawful (months a b) f).0 in item-fits (named month_names month_bounds) (1, 2) (a, (b, 1)) k.0 k.1 refl
month-fits (months_of a b y) f h = absurd (true≢false h)
month-fits (dated r) f h = absurd (true≢false h)

weekday-fits : (d : WeekDayRange) → week_day_range.fits d ≡ true → weekday_stops d ≡ false → weekday_text.fits d ≡ true
unfolding weekday_text only of named
weekday-fits (fixed_days a b o s e) f h =
    let k = (weekday-lawful (fixed_days a b o s e) f).0 in
    both-and _ _ (ap not h) (item-fits (named weekday_names weekday_bounds) (1, 2) (a, (b, 1)) k.0 k.1 refl)
weekday-fits (holiday k o) f h = absurd (true≢false h)

-- ## Spans
clock-fits : (m : ℕ) → m ≤ 2880 → clock.fits m ≡ true
unfolding clock only of ◌then◌ padded word
clock-fits m l =
    both-and _ _ (le-leb m 2880 l)
    (both-and _ _ (in-holds (m / 60) (0, 49) (omega arith) (omega arith)) (in-holds (m % 60) (0, 60) (omega arith) (omega arith)))

span_fits : (s : Span) → span.fits s ≡ true → not (is_plain s) ≡ false → span_text.fits s ≡ true
unfolding span_text only of ◌then◌ unless word
span_fits s f h =
    let k = not-false (is_plain s) h in
    let small = span-carried s f k in
    both-and (is_plain s) _ k (both-and _ _ (clock-fits (minute_of s.start) small.0)
    (both-and _ _ (clock-fits (minute_of s.end) small.1) (unless-fits (not s.open_end) true (λ e. refl))))

-- ## Rules
part-fits : {A : Type 0} (T : Text (List A)) (xs : List A) → (is_none xs ≡ false → T.fits xs ≡ true) → (part T).fits xs ≡ true
unfolding part unless ◌then◌ word
part-fits T xs h = unless-fits (is_none xs) _ (λ e. both-and (T.fits xs) true (h e) refl)

state-fits : (S : State) → S.comment < 2 ^ 24 → state_text.fits S ≡ true
unfolding state_text ◌then◌ unless word of plain
state-fits S l = both-and _ _ (unless-fits (is_open S.kind && eqb S.comment 0) true (λ e. refl))
    (unless-fits (eqb S.comment 0) _ (λ e. both-and _ true (in-holds S.comment comments (omega (arith, eqb-false S.comment 0 e)) l) refl))

module _ (form : Form) (limits : Limits) where
  rule_fits : (r : Rule) → (rule form limits).fits r ≡ true → r.state.comment < 2 ^ 24 → wordless r ≡ false → rule_text.fits r ≡ true
  unfolding rule_text ◌then◌ of several wordless word
  rule_fits r f c w =
      let i = items-fit form limits r f in
      let a = split-or (any_of monthday_stops r.monthdays) _ w in
      let b = split-or (any_of weekday_stops r.weekdays) _ a.1 in
      let d = split-or (any_of (λ s. not (is_plain s)) r.spans) (is_none r.spans) b.1 in
      both-and _ _
      (part-fits _ r.years
      (λ e. both-and _ _ (ap not e) (all-every _ r.years (every-all _ year_range.fits year-fits r.years i.years-fit))))
      (both-and _ _ (part-fits _ r.monthdays (λ e. both-and _ _ (ap not e) (items-fitting month-fits r.monthdays i.monthdays-fit a.0)))
      (both-and _ _ (part-fits _ r.weeks
      (λ e. both-and _ _ (ap not e) (all-every _ r.weeks (every-all _ week_range.fits week-fits r.weeks i.weeks-fit))))
      (both-and _ _ (part-fits _ r.weekdays (λ e. both-and _ _ (ap not e) (items-fitting weekday-fits r.weekdays i.weekdays-fit b.0)))
      (both-and _ _ (both-and _ _ (ap not d.1) (items-fitting span_fits r.spans i.spans_fit d.0)) (state-fits r.state c)))))
    where
      -- items that a sheet carries, of which none is refused
      items-fitting : {A : Type 0} {t u v : A → Bool} → ((x : A) → u x ≡ true → t x ≡ false → v x ≡ true) → (xs : List A) → every u xs ≡ true
          → any_of t xs ≡ false → every v xs ≡ true
      items-fitting {t = t} {u = u} {v = v} h xs k l = all-every v xs (All-map₂ h xs (every-all _ u (λ x e. e) xs k) (none_passes t xs l))

  -- THE LAW
  pub line-fits : (rs : List Rule) → (rules form limits).fits rs ≡ true → All (λ r. r.state.comment < 2 ^ 24) rs → first_wordless rs ≡ none
      → line.fits rs ≡ true
  unfolding line first_wordless
  line-fits rs f c w = go (first_normal rs) refl
    where
      go : (b : Bool) → first_normal rs ≡ b → first_normal rs && every rule_text.fits rs ≡ true
      go true e =
          let words = subst (Found wordless rs) (rw (e, first_wordless) at w) (first_found wordless rs) in
          let carried = every-all _ (rule form limits).fits rule_fits rs (rules-each form limits rs f) in
          both-and _ _ e (all-every _ rs (All-map₂ (λ r k l. k l) rs (All-map₂ (λ r k l. k l) rs carried c) words))
      go false e = absurd (some-ne-none 0 (rw (e, first_wordless) at w))
