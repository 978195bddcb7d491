-- What `rule_ranges` loads of a rule that can be read: where no item stops, the definition's ranges stand in the table and the rule's spans
-- follow; where one stops, the definition says so too.
use mathlib.Core.Path.{◌≡◌, refl, sym, ap, ◌∙◌, subst}
use mathlib.Core.List.{List, [], ◌∷◌, map, flat_map}
use mathlib.Core.Option.{none, some}
use mathlib.Core.Bool.{Bool, true, false, ◌||◌, not}
use Prim.Native.Nat.{ℕ, suc, ◌+◌, ◌*◌, ◌≤◌}
use lib.Dec.{eqb}
use lib.ListN.{length, set}
use lib.Seq.{sets}
use Rattle.laws.proofs.Flags.{split-or}
use Rattle.laws.specs.Lists.{any_of, All}
use Rattle.grid.specs.Cut.{Range}
use Rattle.definition.specs.Field.{got, sheet_bits, read_all}
use Rattle.definition.specs.Rule.{weekday_bounds, week_bounds, month_bounds, year_bounds, YearRange, MonthdayRange, WeekRange, WeekDayRange, Rule}
use Rattle.definition.specs.Sheet.{Form, title_width, head_width, year_range, monthday_range, week_range, week_day_range}
use Rattle.definition.specs.Range.{ranges}
use Rattle.definition.specs.Stop.{monthday_stops, weekday_stops}
use Rattle.definition.specs.Point.{month_ends, weekday_ends}
use Rattle.definition.proofs.Bits.{Bytes}
use Rattle.definition.proofs.RuleParts.{Counted, RuleParts}
use Rattle.canonical_date.specs.Says.{bounds_of, year_says, month_says, week_says, weekday_says}
use Rattle.canonical_date.specs.Row.{flat, items_end, row_ranges}
use Rattle.canonical_date.specs.Days.{loaded, load_rows, days_loaded}
use Rattle.canonical_date.specs.Rule.{days_stop, days_rows, lay_rows, count_rows}
use Rattle.canonical_date.proofs.Saying.{as-years, as-months, as-weeks, as-weekdays}
use Rattle.canonical_date.proofs.DayRows.{row-few, count-few}
use Rattle.canonical_date.proofs.RowMeaning.{row-pass, items-halt, year_ends, week_ends, years-pass, years-halt, months-pass, months-halt, weeks-pass, weeks-halt, weekdays-pass, weekdays-halt}

-- ## A row of each sort
single : {A B : Type 0} (f : A → B) (xs : List A) → flat_map (λ x. f x ∷ []) xs ≡ map f xs
unfolding flat_map
single f [] = refl
single f (x ∷ xs) = ap (f x ∷◌) (single f xs)

-- a row that passes gives the ranges R and ends at q; a row that halts has no end
abbrev Passed : ℕ → ℕ → List ℕ → ℕ → ℕ → List Range → Type 0
Passed sort n s p q R = (row_ranges sort n s p ≡ R) × (items_end sort n s p ≡ some q)

module _ (n : ℕ) (s : List ℕ) (p q : ℕ) where
  years-passed : (xs : List YearRange) → read_all year_range.read n s p ≡ got xs q → any_of (λ y. not (eqb y.step 1)) xs ≡ false
      → Passed 0 n s p q (ranges year_bounds (map (λ y. (y.start, y.end)) xs))
  unfolding bounds_of
  years-passed xs e f =
      let k = row-pass year_range year_says (λ y. not (eqb y.step 1)) year_ends 0 (λ s p. sym (as-years 0 s p refl)) years-pass n s p xs q e f in
      (k.0 ∙ ap (ranges year_bounds) (single (λ y. (y.start, y.end)) xs), k.1)

  months-passed : (xs : List MonthdayRange) → read_all monthday_range.read n s p ≡ got xs q → any_of monthday_stops xs ≡ false → Passed 1 n s p q (ranges month_bounds (flat_map month_ends xs))
  unfolding bounds_of
  months-passed xs e f = row-pass monthday_range month_says monthday_stops month_ends 1 (λ s p. sym (as-months 1 s p refl refl)) months-pass n s p xs q e f

  weeks-passed : (xs : List WeekRange) → read_all week_range.read n s p ≡ got xs q → any_of (λ w. not (eqb w.step 1)) xs ≡ false
      → Passed 2 n s p q (ranges week_bounds (map (λ w. (w.start, w.end)) xs))
  unfolding bounds_of
  weeks-passed xs e f =
      let k = row-pass week_range week_says (λ w. not (eqb w.step 1)) week_ends 2 (λ s p. sym (as-weeks 2 s p refl refl refl)) weeks-pass n s p xs q e f in
      (k.0 ∙ ap (ranges week_bounds) (single (λ w. (w.start, w.end)) xs), k.1)

  weekdays-passed : (xs : List WeekDayRange) → read_all week_day_range.read n s p ≡ got xs q → any_of weekday_stops xs ≡ false → Passed 3 n s p q (ranges weekday_bounds (flat_map weekday_ends xs))
  unfolding bounds_of
  weekdays-passed xs e f = row-pass week_day_range weekday_says weekday_stops weekday_ends 3 (λ s p. sym (as-weekdays 3 s p refl refl refl)) weekdays-pass n s p xs q e f

  years-halted : (xs : List YearRange) → read_all year_range.read n s p ≡ got xs q → any_of (λ y. not (eqb y.step 1)) xs ≡ true → items_end 0 n s p ≡ none
  unfolding bounds_of
  years-halted xs e f = items-halt year_range year_says (λ y. not (eqb y.step 1)) year_ends 0 (λ s p. sym (as-years 0 s p refl)) years-pass years-halt n s p xs q e f

  months-halted : (xs : List MonthdayRange) → read_all monthday_range.read n s p ≡ got xs q → any_of monthday_stops xs ≡ true → items_end 1 n s p ≡ none
  unfolding bounds_of
  months-halted xs e f = items-halt monthday_range month_says monthday_stops month_ends 1 (λ s p. sym (as-months 1 s p refl refl)) months-pass months-halt n s p xs q e f

  weeks-halted : (xs : List WeekRange) → read_all week_range.read n s p ≡ got xs q → any_of (λ w. not (eqb w.step 1)) xs ≡ true → items_end 2 n s p ≡ none
  unfolding bounds_of
  weeks-halted xs e f = items-halt week_range week_says (λ w. not (eqb w.step 1)) week_ends 2 (λ s p. sym (as-weeks 2 s p refl refl refl)) weeks-pass weeks-halt n s p xs q e f

  weekdays-halted : (xs : List WeekDayRange) → read_all week_day_range.read n s p ≡ got xs q → any_of weekday_stops xs ≡ true → items_end 3 n s p ≡ none
  unfolding bounds_of
  weekdays-halted xs e f = items-halt week_day_range weekday_says weekday_stops weekday_ends 3 (λ s p. sym (as-weekdays 3 s p refl refl refl)) weekdays-pass weekdays-halt n s p xs q e f

-- ## Row after row
module _ (form : Form) (s : List ℕ) (h sort p : ℕ) (l c : List ℕ) (n : ℕ) (count : Counted form s h n) where
  row_done : (k q : ℕ) (R : List Range) → Passed sort n s p q R
      → load_rows form (suc k) s h sort p l c ≡ load_rows form k s (h + form.item_count) (sort + 1) q (sets l (sort * 64) (flat R)) (set c sort (length R))
  unfolding load_rows
  row_done k q R d = rw (count, d.1, load_rows) (ap (λ Q. load_rows form k s (h + form.item_count) (sort + 1) q (sets l (sort * 64) (flat Q)) (set c sort (length Q))) d.0)

  row_ends : (k : ℕ) → items_end sort n s p ≡ none → (load_rows form (suc k) s h sort p l c).spans ≡ none
  unfolding load_rows
  row_ends k e = rw (count, e, load_rows)

  spans-found : load_rows form 0 s h sort p l c ≡ loaded l c (some (n, p))
  unfolding load_rows
  spans-found = rw (count, load_rows)

module _ (form : Form) (s : List ℕ) (p : ℕ) (r : Rule) (q : ℕ) (w : RuleParts form s p r q) (l c : List ℕ) where
  -- THE DAYS PASS
  pub days-pass : days_stop r ≡ false → days_loaded form s p l c ≡ loaded (lay_rows 0 (days_rows r) l) (count_rows 0 (days_rows r) c) (some (length r.spans, w.spans-at))
  unfolding days_stop lay_rows count_rows
  days-pass f =
      let a = split-or _ _ f in
      let b = split-or _ _ a.1 in
      let d = split-or _ _ b.1 in
      row_done form s (p + title_width form) 0 (p + head_width form) _ _ _ w.count-years 3 _ _ (years-passed _ s (p + head_width form) _ r.years w.years-read a.0)
      ∙ row_done form s (p + title_width form + form.item_count) 1 w.monthdays-at _ _ _ w.count-monthdays 2 _ _ (months-passed _ s w.monthdays-at _ r.monthdays w.monthdays-read b.0)
      ∙ row_done form s (p + title_width form + form.item_count + form.item_count) 2 w.weeks-at _ _ _ w.count-weeks 1 _ _ (weeks-passed _ s w.weeks-at _ r.weeks w.weeks-read d.0)
      ∙ row_done form s (p + title_width form + form.item_count + form.item_count + form.item_count) 3 w.weekdays-at _ _ _ w.count-weekdays 0 _ _ (weekdays-passed _ s w.weekdays-at _ r.weekdays w.weekdays-read d.1)
      ∙ spans-found form s (p + title_width form + form.item_count + form.item_count + form.item_count + form.item_count) 4 w.spans-at _ _ _ w.count-spans

  -- THE DAYS STOP
  pub days-halt : days_stop r ≡ true → (days_loaded form s p l c).spans ≡ none
  unfolding days_stop
  days-halt f = go (any_of (λ y. not (eqb y.step 1)) r.years) refl (any_of monthday_stops r.monthdays) refl (any_of (λ w. not (eqb w.step 1)) r.weeks) refl f
    where
      go : (a : Bool) → any_of (λ y. not (eqb y.step 1)) r.years ≡ a → (b : Bool) → any_of monthday_stops r.monthdays ≡ b → (d : Bool) → any_of (λ w. not (eqb w.step 1)) r.weeks ≡ d
          → a || (b || (d || any_of weekday_stops r.weekdays)) ≡ true → (days_loaded form s p l c).spans ≡ none
      go true ha b hb d hd t = row_ends form s (p + title_width form) 0 (p + head_width form) _ _ _ w.count-years 3 (years-halted _ s (p + head_width form) _ r.years w.years-read ha)
      go false ha true hb d hd t =
          ap (λ x. x.spans) (row_done form s (p + title_width form) 0 (p + head_width form) _ _ _ w.count-years 3 _ _ (years-passed _ s (p + head_width form) _ r.years w.years-read ha))
          ∙ row_ends form s (p + title_width form + form.item_count) 1 w.monthdays-at _ _ _ w.count-monthdays 2 (months-halted _ s w.monthdays-at _ r.monthdays w.monthdays-read hb)
      go false ha false hb true hd t =
          ap (λ x. x.spans) (row_done form s (p + title_width form) 0 (p + head_width form) _ _ _ w.count-years 3 _ _ (years-passed _ s (p + head_width form) _ r.years w.years-read ha)
          ∙ row_done form s (p + title_width form + form.item_count) 1 w.monthdays-at _ _ _ w.count-monthdays 2 _ _ (months-passed _ s w.monthdays-at _ r.monthdays w.monthdays-read hb))
          ∙ row_ends form s (p + title_width form + form.item_count + form.item_count) 2 w.weeks-at _ _ _ w.count-weeks 1 (weeks-halted _ s w.weeks-at _ r.weeks w.weeks-read hd)
      go false ha false hb false hd t =
          ap (λ x. x.spans) (row_done form s (p + title_width form) 0 (p + head_width form) _ _ _ w.count-years 3 _ _ (years-passed _ s (p + head_width form) _ r.years w.years-read ha)
          ∙ row_done form s (p + title_width form + form.item_count) 1 w.monthdays-at _ _ _ w.count-monthdays 2 _ _ (months-passed _ s w.monthdays-at _ r.monthdays w.monthdays-read hb)
          ∙ row_done form s (p + title_width form + form.item_count + form.item_count) 2 w.weeks-at _ _ _ w.count-weeks 1 _ _ (weeks-passed _ s w.weeks-at _ r.weeks w.weeks-read hd))
          ∙ row_ends form s (p + title_width form + form.item_count + form.item_count + form.item_count) 3 w.weekdays-at _ _ _ w.count-weekdays 0 (weekdays-halted _ s w.weekdays-at _ r.weekdays w.weekdays-read t)

-- each dimension has at most 32 ranges
pub days-few : (form : Form) (sheet : List ℕ) → Bytes sheet → (p : ℕ) (r : Rule) (q : ℕ) → RuleParts form (sheet_bits sheet) p r q → days_stop r ≡ false → All (λ R. length R ≤ 32) (days_rows r)
unfolding days_stop
days-few form sheet b p r q w f =
    let s = sheet_bits sheet in
    let a = split-or _ _ f in
    let d = split-or _ _ a.1 in
    let e = split-or _ _ d.1 in (
      few 0 _ _ (p + head_width form) _ _ w.count-years (years-passed _ s (p + head_width form) _ r.years w.years-read a.0),
      (
        few 1 _ _ w.monthdays-at _ _ w.count-monthdays (months-passed _ s w.monthdays-at _ r.monthdays w.monthdays-read d.0),
        (
          few 2 _ _ w.weeks-at _ _ w.count-weeks (weeks-passed _ s w.weeks-at _ r.weeks w.weeks-read e.0),
          (few 3 _ _ w.weekdays-at _ _ w.count-weekdays (weekdays-passed _ s w.weekdays-at _ r.weekdays w.weekdays-read e.1), tt),
        ),
      ),
    )
  where
    few : (sort h n i j : ℕ) (R : List Range) → Counted form (sheet_bits sheet) h n → Passed sort n (sheet_bits sheet) i j R → length R ≤ 32
    few sort h n i j R c d = subst (λ Q. length Q ≤ 32) d.0 (row-few sort sheet b n i (count-few form (sheet_bits sheet) h n _ c))
