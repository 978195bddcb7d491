-- What the readers of items answer: one lemma for each of their returns, and that the ends which were read lie within their bounds.
use mathlib.Core.Path.{◌≡◌, refl, sym, ap, ap₂, ◌∙◌}
use mathlib.Core.List.{List}
use mathlib.Core.Option.{Option, none, some}
use mathlib.Core.Bool.{Bool, true, false}
use Prim.Native.Nat.{ℕ, ◌<◌}
use Rattle.std.specs.Prelude.{Result, Ok, Err, Some, None}
use Rattle.std.specs.Result.{result_ok}
use Rattle.answers.specs.Refusal.{code_of, read_as}
use Rattle.answers.specs.declared.refusal.Refusal.{Refusal}
use lib.Dec.{eqb}
use Rattle.laws.specs.Lists.{only_if}
use Rattle.grid.specs.Cut.{Range}
use Rattle.grid.proofs.Cut.{holds-in}
use Rattle.definition.specs.Field.{Read, got, refused, sheet_bits}
use Rattle.definition.specs.Rule.{weekday_bounds, week_bounds, month_bounds, year_bounds, YearRange, months, WeekRange, fixed_days}
use Rattle.definition.specs.Sheet.{year_range, monthday_range, week_range, week_day_range}
use Rattle.definition.specs.Range.{Ends, split}
use Rattle.definition.proofs.Bits.{Bytes}
use Rattle.definition.proofs.Items.{year-faithful, monthday-faithful, week-faithful, weekday-faithful}
use Rattle.definition.proofs.SheetRead.{carried}
use Rattle.definition.proofs.Lawful.{Bounded, year-lawful, month-lawful, week-lawful, weekday-lawful}
use Rattle.item.specs.declared.day.Monthday.{Monthday}
use Rattle.item.specs.declared.day.Monthday.TheVariants.{Months, MonthsOf, Dated}
use Rattle.item.specs.Answer.{as_monthday}
use Rattle.canonical_date.specs.Says.{told, bounds_of, item_says, year_says, month_says, week_says, weekday_says}

-- ## What `ok` takes of a reading
module _ {A B : Type 0} (make : A → B) where
  pub ok-got : (r : Result (A × ℕ) Refusal) {w : Read B} (x : A) (q : ℕ) → read_as make r ≡ w → Some (x, q) ≡ result_ok r → w ≡ got (make x) q
  ok-got (Ok (y, j)) x q e h = let z : ◌≡◌ {A = A × ℕ} (x, q) (y, j) = cc in sym e ∙ ap (λ v. got (make v.0) v.1) (sym z)
  ok-got (Err f) x q e h = cc

  pub ok-refused : (r : Result (A × ℕ) Refusal) {w : Read B} → read_as make r ≡ w → None ≡ result_ok r → (c : ℕ) × ((p : ℕ) × (w ≡ refused c p))
  ok-refused (Ok (y, j)) e h = absurd (cc)
  ok-refused (Err f) e h = (code_of f.reason, (f.place, sym e))

-- ## One lemma for each return
module _ {A : Type 0} (says : A → Option (List Range)) (w : Read A) where
  pub said : (x : A) (q : ℕ) (R : List Range) → w ≡ got x q → says x ≡ some R → some (R, q) ≡ told says w
  said x q R e h = sym (rw (e, h))

  pub said-stops : (x : A) (q : ℕ) → w ≡ got x q → says x ≡ none → none ≡ told says w
  said-stops x q e h = sym (rw (e, h))

  pub said-refused : (c p : ℕ) → w ≡ refused c p → none ≡ told says w
  said-refused c p e = sym (rw e)

-- a monthday of another tag than that of months
pub months-else : (x : Monthday) → ((a b : ℕ) → x ≡ Months a b → ⊥) → month_says (as_monthday x) ≡ none
months-else (Months a b) h = absurd (h a b refl)
months-else (MonthsOf a b y) h = refl
months-else (Dated r) h = refl

-- ranges that were split from numbers of a kind
pub split-some : (b : Range) (x y m n : ℕ) (R : List Range) → R ≡ split b (x, y) → x ≡ m → y ≡ n → some (split b (m, n)) ≡ some R
split-some b x y m n R e p q = ap some (sym (e ∙ ap₂ (λ u v. split b (u, v)) p q))

pub only-some : {A : Type 0} (t : Bool) (x : A) (o : Option A) → t ≡ true → some x ≡ o → only_if t x ≡ o
only-some t x o e h = rw e h

pub only_none : {A : Type 0} (t : Bool) (x : A) → t ≡ false → only_if t x ≡ none
only_none t x e = rw e

-- ## An item of a sort
module _ (sort : ℕ) (s : List ℕ) (p : ℕ) where
  pub as-years : eqb sort 0 ≡ true → told year_says (year_range.read s p) ≡ item_says sort s p
  unfolding item_says
  as-years a = rw a

  pub as-months : eqb sort 0 ≡ false → eqb sort 1 ≡ true → told month_says (monthday_range.read s p) ≡ item_says sort s p
  unfolding item_says
  as-months a b = rw (a, b)

  pub as-weeks : eqb sort 0 ≡ false → eqb sort 1 ≡ false → eqb sort 2 ≡ true → told week_says (week_range.read s p) ≡ item_says sort s p
  unfolding item_says
  as-weeks a b c = rw (a, b, c)

  pub as-weekdays : eqb sort 0 ≡ false → eqb sort 1 ≡ false → eqb sort 2 ≡ false → told weekday_says (week_day_range.read s p) ≡ item_says sort s p
  unfolding item_says
  as-weekdays a b c = rw (a, b, c)

module _ (sort : ℕ) where
  pub in-years : eqb sort 0 ≡ true → year_bounds ≡ bounds_of sort
  unfolding bounds_of
  in-years a = rw a

  pub in-months : eqb sort 0 ≡ false → eqb sort 1 ≡ true → month_bounds ≡ bounds_of sort
  unfolding bounds_of
  in-months a b = rw (a, b)

  pub in-weeks : eqb sort 0 ≡ false → eqb sort 1 ≡ false → eqb sort 2 ≡ true → week_bounds ≡ bounds_of sort
  unfolding bounds_of
  in-weeks a b c = rw (a, b, c)

  pub in-weekdays : eqb sort 0 ≡ false → eqb sort 1 ≡ false → eqb sort 2 ≡ false → weekday_bounds ≡ bounds_of sort
  unfolding bounds_of
  in-weekdays a b c = rw (a, b, c)

-- ## Ends that were read
below : (b : Range) (e : Ends) → Bounded b e → (e.0 < b.1) × (e.1 < b.1)
below b e h = ((holds-in e.0 b h.0).1, (holds-in e.1 b h.1).1)

module _ (sheet : List ℕ) (b : Bytes sheet) (p : ℕ) where
  pub years-low : (y : YearRange) (q : ℕ) → year_range.read (sheet_bits sheet) p ≡ got y q → (y.start < 10000) × (y.end < 10000)
  years-low y q e = below year_bounds (y.start, y.end) (year-lawful y (carried year-faithful sheet b p y q e))

  pub weeks-low : (w : WeekRange) (q : ℕ) → week_range.read (sheet_bits sheet) p ≡ got w q → (w.start < 54) × (w.end < 54)
  weeks-low w q e = below week_bounds (w.start, w.end) (week-lawful w (carried week-faithful sheet b p w q e))

  pub months-low : (m n q : ℕ) → monthday_range.read (sheet_bits sheet) p ≡ got (months m n) q → (m < 13) × (n < 13)
  months-low m n q e = below month_bounds (m, n) (month-lawful (months m n) (carried monthday-faithful sheet b p (months m n) q e)).0

  pub weekdays-low : (m n o i j q : ℕ) → week_day_range.read (sheet_bits sheet) p ≡ got (fixed_days m n o i j) q → (m < 7) × (n < 7)
  weekdays-low m n o i j q e = below weekday_bounds (m, n) (weekday-lawful (fixed_days m n o i j) (carried weekday-faithful sheet b p (fixed_days m n o i j) q e)).0
