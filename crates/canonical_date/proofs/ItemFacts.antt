-- What is known of an item that does not stop: it takes at most 52 bits, and gives one or two ranges within its dimension's bounds.
use mathlib.Core.Path.{◌≡◌, refl, sym, ap, ◌∙◌, subst}
use mathlib.Core.List.{List}
use mathlib.Core.Option.{Option, none, some}
use mathlib.Core.Bool.{Bool, true, false, ◌&&◌, cond}
use Prim.Native.Nat.{ℕ, ◌+◌, ◌≤◌, ◌<◌}
use native.Mathlib.Omega.{arith}
use lib.Dec.{eqb}
use lib.ListN.{length}
use Rattle.laws.specs.Lists.{All, only_if}
use Rattle.laws.proofs.Lists.{All-map}
use Rattle.grid.specs.Cut.{Range}
use Rattle.grid.proofs.Cut.{Inside}
use Rattle.definition.specs.Field.{Read, got, refused, sheet_bits, Layout}
use Rattle.definition.specs.Rule.{weekday_bounds, week_bounds, month_bounds, year_bounds, months, months_of, dated, fixed_days, holiday}
use Rattle.definition.specs.Sheet.{year_range, monthday_range, week_range, week_day_range}
use Rattle.definition.specs.Range.{Ends, split}
use Rattle.definition.specs.Stop.{every_nth}
use Rattle.definition.proofs.Bits.{Bytes}
use Rattle.definition.proofs.Points.{split-few}
use Rattle.definition.proofs.Faithful.{Faithful, Always}
use Rattle.definition.proofs.Reading.{Short}
use Rattle.definition.proofs.Lengths.{years-short, monthdays-short, weeks-short, weekdays-short}
use Rattle.definition.proofs.Items.{year-faithful, monthday-faithful, week-faithful, weekday-faithful}
use Rattle.definition.proofs.SheetRead.{carried}
use Rattle.definition.proofs.Lawful.{Bounded, split-inside, year-lawful, month-lawful, week-lawful, weekday-lawful}
use Rattle.canonical_date.specs.Says.{Told, told, bounds_of, item_says, year_says, month_says, week_says, weekday_says}
use Rattle.canonical_date.specs.Row.{Narrow}

pub record ItemFacts (b : Range) (p : ℕ) (R : List Range) (q : ℕ) : Type 0 where
  pub ends : q ≤ p + 52
  pub inside : All (Inside b) R
  pub narrow : All Narrow R
  pub few : length R ≤ 2

-- ## Taking apart what was said
pub some-other : {A : Type 0} {G : Type 0} (x : A) → none ≡ some x → G
some-other x e = let z : ◌≡◌ {A = ℕ} 0 1 = cc in absurd (omega arith)

only-got : {A : Type 0} (t : Bool) (x y : A) → only_if t x ≡ some y → y ≡ x
only-got true x y e = cc
only-got false x y e = some-other y e

told-got : {A : Type 0} (says : A → Option (List Range)) (w : Read A) (R : List Range) (q : ℕ) → told says w ≡ some (R, q) → (x : A) × (w ≡ got x q) × (says x ≡ some R)
told-got says (refused c p) R q e = some-other (R, q) e
told-got {A} says (got x j) R q e = go (says x) refl e
  where
    go : (o : Option (List Range)) → says x ≡ o → told says (got x j) ≡ some (R, q) → (y : A) × (got x j ≡ got y q) × (says y ≡ some R)
    go none h g = some-other (R, q) (rw h at g)
    go (some Q) h g =
        let k : ◌≡◌ {A = Told} (some (Q, j)) (some (R, q)) = rw h at g in
        let pair : ◌≡◌ {A = List Range × ℕ} (Q, j) (R, q) = cc in
        (x, ap (λ v. got x v.1) pair, h ∙ ap (λ v. some v.0) pair)

-- what an item says is split from ends within the bounds
abbrev Splits : {A : Type 0} → Layout A → (A → Option (List Range)) → Range → Type 0
Splits {A} L says b = (x : A) → L.fits x ≡ true → (R : List Range) → says x ≡ some R → (e : Ends) × Bounded b e × (R ≡ split b e)

years-split : Splits year_range year_says year_bounds
years-split y f R h = ((y.start, y.end), year-lawful y f, only-got (eqb y.step 1) _ R h)

weeks-split : Splits week_range week_says week_bounds
weeks-split w f R h = ((w.start, w.end), week-lawful w f, only-got (eqb w.step 1) _ R h)

months-split : Splits monthday_range month_says month_bounds
months-split (months m n) f R h = ((m, n), (month-lawful (months m n) f).0, only-got true _ R h)
months-split (months_of m n y) f R h = some-other R h
months-split (dated r) f R h = some-other R h

weekdays-split : Splits week_day_range weekday_says weekday_bounds
weekdays-split (fixed_days m n o i j) f R h = ((m, n), (weekday-lawful (fixed_days m n o i j) f).0, only-got (eqb o 0 && (eqb i every_nth && eqb j every_nth)) _ R h)
weekdays-split (holiday k o) f R h = some-other R h

-- ## The facts
told-facts : {A : Type 0} (L : Layout A) (says : A → Option (List Range)) (b : Range) (m : ℕ) → m ≤ 52 → b.1 ≤ 10000 → Faithful Always L → Short L m → Splits L says b
    → (sheet : List ℕ) → Bytes sheet → (p : ℕ) (R : List Range) (q : ℕ) → told says (L.read (sheet_bits sheet) p) ≡ some (R, q) → ItemFacts b p R q
told-facts L says b m l top a short splits sheet bytes p R q e =
    let w = told-got says (L.read (sheet_bits sheet) p) R q e in
    let k = splits w.0 (carried a sheet bytes p w.0 q w.1) R w.2 in
    let lie : All (Inside b) R = subst (All (Inside b)) (sym k.2) (split-inside b k.0 k.1) in
    record {
      ends = omega (arith, short (sheet_bits sheet) p w.0 q w.1);
      inside = lie;
      narrow = All-map (λ r i. (omega (arith, i), omega (arith, i))) R lie;
      few = subst (λ Q. length Q ≤ 2) (sym k.2) (split-few b k.0);
    }

pub item-facts : (sort : ℕ) (sheet : List ℕ) → Bytes sheet → (p : ℕ) (R : List Range) (q : ℕ) → item_says sort (sheet_bits sheet) p ≡ some (R, q) → ItemFacts (bounds_of sort) p R q
unfolding item_says bounds_of
item-facts sort sheet b p R q e = go (eqb sort 0) (eqb sort 1) (eqb sort 2) e
  where
    s : List ℕ
    s = sheet_bits sheet

    go : (i j k : Bool) → cond i (told year_says (year_range.read s p)) (cond j (told month_says (monthday_range.read s p))
        (cond k (told week_says (week_range.read s p)) (told weekday_says (week_day_range.read s p)))) ≡ some (R, q)
        → ItemFacts (cond i year_bounds (cond j month_bounds (cond k week_bounds weekday_bounds))) p R q
    go true j k h = told-facts year_range year_says year_bounds 44 (omega arith) (omega arith) year-faithful years-short years-split sheet b p R q h
    go false true k h = told-facts monthday_range month_says month_bounds 34 (omega arith) (omega arith) monthday-faithful monthdays-short months-split sheet b p R q h
    go false false true h = told-facts week_range week_says week_bounds 20 (omega arith) (omega arith) week-faithful weeks-short weeks-split sheet b p R q h
    go false false false h = told-facts week_day_range weekday_says weekday_bounds 33 (omega arith) (omega arith) weekday-faithful weekdays-short weekdays-split sheet b p R q h

-- bounds are numbers of sixteen bits
pub bounds-low : (sort : ℕ) → ((bounds_of sort).0 < (bounds_of sort).1) × ((bounds_of sort).1 ≤ 10000)
unfolding bounds_of
bounds-low sort = go (eqb sort 0) (eqb sort 1) (eqb sort 2)
  where
    go : (i j k : Bool) → let b = cond i year_bounds (cond j month_bounds (cond k week_bounds weekday_bounds)) in (b.0 < b.1) × (b.1 ≤ 10000)
    go true j k = (omega arith, omega arith)
    go false true k = (omega arith, omega arith)
    go false false true = (omega arith, omega arith)
    go false false false = (omega arith, omega arith)
