-- What is found in the rows of a rule is the first number that applies to it.
use mathlib.Core.Path.{◌≡◌, refl, sym, ap, ap₂, ◌∙◌}
use mathlib.Core.Bool.{Bool, true, false, cond}
use mathlib.Core.List.{List}
use Prim.Native.Nat.{ℕ, ◌+◌, ◌<◌}
use native.Mathlib.Omega.{arith}
use lib.ListN.{length}
use Rattle.laws.specs.Lists.{any_of}
use Rattle.definition.specs.Field.{got}
use Rattle.definition.specs.Rule.{Operator, WeekDayRange, Rule}
use Rattle.definition.specs.Sheet.{Form, sheet_limits, title_width, head_width, year_range, monthday_range, week_range, week_day_range, span, Counts, counts}
use Rattle.definition.specs.Stop.{is_fallback, year_stops, monthday_stops, week_stops, is_holiday, is_moved, lacks_nth, span_stops, first_that_applies, reason}
use Rattle.definition.proofs.RuleParts.{RuleParts}
use Rattle.sheet.specs.Begin.{rule_read_at, Readable}
use Rattle.sheet.proofs.Titles.{parts, counts_same}
use Rattle.item.proofs.Sorts.{of-years, of-monthdays, of-weeks, of-weekdays, of-spans}
use Rattle.stopping.specs.declared.part.Reasoned.{Reasoned}
use Rattle.stopping.specs.Part.{found, year_reason, monthday_reason, week_reason, weekday_reason, span_reason}
use Rattle.stopping.specs.Rule.{earlier, begun, row_reasoned, body_reason, parts_reason}
use Rattle.stopping.proofs.Order.{Later, later-none, later-cond, earlier-cond, earliest, earliest-first, earliest-only}
use Rattle.stopping.proofs.Rows.{row_read}

-- ## Five rows, one behind the other
module _ (years monthdays weeks weekdays spans : ℕ) (s : List ℕ) (p : ℕ) (y m w d t : Reasoned) where
  pub body-found : y ≡ row_reasoned 0 years s (begun p) → m ≡ row_reasoned 1 monthdays s (begun y.at) → w ≡ row_reasoned 2 weeks s (begun m.at)
      → d ≡ row_reasoned 3 weekdays s (begun w.at) → t ≡ row_reasoned 4 spans s (begun d.at)
      → earlier t.reason (earlier y.reason (earlier m.reason (earlier w.reason d.reason))) ≡ body_reason years monthdays weeks weekdays spans s p
  unfolding body_reason
  body-found ey em ew ed et = rw (et, ed, ew, em, ey) refl

-- ## What is found
-- the first number that applies to weekdays
abbrev days : List WeekDayRange → ℕ
days ds = cond (any_of is_holiday ds) 6 (cond (any_of is_moved ds) 7 (cond (any_of lacks_nth ds) 8 0))

days-found : (ds : List WeekDayRange) → earliest weekday_reason 0 ds ≡ days ds
days-found ds =
    earliest-first is_holiday 6 (omega arith) _ (λ d. later-cond (is_moved d) 6 7 _ (omega arith) (later-cond (lacks_nth d) 6 8 0 (omega arith) (later-none 6))) ds
    ∙ ap (cond (any_of is_holiday ds) 6) (earliest-first is_moved 7 (omega arith) _ (λ d. later-cond (lacks_nth d) 7 8 0 (omega arith) (later-none 7)) ds
    ∙ ap (cond (any_of is_moved ds) 7) (earliest-only lacks_nth 8 (omega arith) ds))

days-later : (k : ℕ) → k < 6 → (ds : List WeekDayRange) → Later k (days ds)
days-later k h ds =
    later-cond (any_of is_holiday ds) k 6 _ h (later-cond (any_of is_moved ds) k 7 _ (omega arith) (later-cond (any_of lacks_nth ds) k 8 0 (omega arith) (later-none k)))

-- the rows in 02's order
in_order : (t y m w : Bool) (ds : List WeekDayRange)
    → earlier (cond t 2 0) (earlier (cond y 3 0) (earlier (cond m 4 0) (earlier (cond w 5 0) (days ds)))) ≡ cond t 2 (cond y 3 (cond m 4 (cond w 5 (days ds))))
in_order t y m w ds =
    ap (λ z. earlier (cond t 2 0) (earlier (cond y 3 0) (earlier (cond m 4 0) z))) (earlier-cond w 5 (days ds) (omega arith) (days-later 5 (omega arith) ds))
    ∙ ap (λ z. earlier (cond t 2 0) (earlier (cond y 3 0) z)) (earlier-cond m 4 _ (omega arith) (weeks 4 (omega arith)))
    ∙ ap (earlier (cond t 2 0)) (earlier-cond y 3 _ (omega arith) (months 3 (omega arith)))
    ∙ earlier-cond t 2 _ (omega arith) (later-cond y 2 3 _ (omega arith) (months 2 (omega arith)))
  where
    weeks : (k : ℕ) → k < 5 → Later k (cond w 5 (days ds))
    weeks k h = later-cond w k 5 _ h (days-later k (omega arith) ds)

    months : (k : ℕ) → k < 4 → Later k (cond m 4 (cond w 5 (days ds)))
    months k h = later-cond m k 4 _ h (weeks k (omega arith))

-- ## A rule
module _ (form : Form) (s : List ℕ) (p : ℕ) (r : Rule) (q : ℕ) (w : RuleParts form s p r q) where
  rows-read : body_reason w.many.0 w.many.1.0 w.many.1.1.0 w.many.1.1.1.0 (length r.spans) s (p + head_width form) ≡ parts_reason r
  rows-read =
      let y = row_read year_range year_reason 0 (λ s p. of-years _ _ _ _ _ 0 s p refl) _ s _ 0 _ _ w.years-read
      ∙ ap (λ z. found z w.monthdays-at) (earliest-only year_stops 3 (omega arith) r.years) in
      let m = row_read monthday_range monthday_reason 1 (λ s p. of-monthdays _ _ _ _ _ 1 s p (λ e. omega arith) refl) _ s _ 0 _ _ w.monthdays-read
      ∙ ap (λ z. found z w.weeks-at) (earliest-only monthday_stops 4 (omega arith) r.monthdays) in
      let k = row_read week_range week_reason 2 (λ s p. of-weeks _ _ _ _ _ 2 s p (λ e. omega arith) (λ e. omega arith) refl) _ s _ 0 _ _ w.weeks-read
      ∙ ap (λ z. found z w.weekdays-at) (earliest-only week_stops 5 (omega arith) r.weeks) in
      let d = row_read week_day_range weekday_reason 3 (λ s p. of-weekdays _ _ _ _ _ 3 s p (λ e. omega arith) (λ e. omega arith) (λ e. omega arith) refl) _ s _ 0 _ _
      w.weekdays-read ∙ ap (λ z. found z w.spans-at) (days-found r.weekdays) in
      let t = row_read span span_reason 4 (λ s p. of-spans _ _ _ _ _ 4 s p (λ e. omega arith) (λ e. omega arith) (λ e. omega arith) (λ e. omega arith)) _ s _ 0 _ _
      w.spans-read ∙ ap (λ z. found z q) (earliest-only span_stops 2 (omega arith) r.spans) in
      sym (body-found _ _ _ _ _ s (p + head_width form) _ _ _ _ _ (sym y) (sym m) (sym k) (sym d) (sym t))
      ∙ in_order (any_of span_stops r.spans) (any_of year_stops r.years) (any_of monthday_stops r.monthdays) (any_of week_stops r.weeks) r.weekdays

module _ (form : Form) (s : List ℕ) (p : ℕ) (readable : Readable form s p) where
  -- by the counts that were read
  pub parts-read : (n : Counts) (i q : ℕ) → i ≡ p + title_width form → (counts form sheet_limits).read s i ≡ got n q
      → body_reason n.0 n.1.0 n.1.1.0 n.1.1.1.0 n.1.1.1.1 s q ≡ parts_reason (rule_read_at form s p)
  parts-read n i q z e =
      let same = counts_same form s p readable n i q z e in
      let m = (parts form s p readable).many in
      ap₂ (λ m j. body_reason m.0 m.1.0 m.1.1.0 m.1.1.1.0 n.1.1.1.1 s j) same.0 same.1
      ∙ ap (λ k. body_reason m.0 m.1.0 m.1.1.0 m.1.1.1.0 k s (p + head_width form)) same.2
      ∙ rows-read form s p (rule_read_at form s p) readable.end (parts form s p readable)

-- ## With the operator that was read
module _ (r : Rule) (o : Operator) (e : o ≡ r.operator) where
  pub fallback-reason : is_fallback o ≡ true → 1 ≡ reason r
  unfolding reason first_that_applies
  fallback-reason h = sym (rw (sym (ap is_fallback e) ∙ h))

  pub other-reason : is_fallback o ≡ false → parts_reason r ≡ reason r
  unfolding reason first_that_applies
  other-reason h = sym (rw (sym (ap is_fallback e) ∙ h))
