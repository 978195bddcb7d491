-- What reading a row of items gives: the definition's ranges where no item stops the rule, and no end where one does. Proved once for any
-- layout of items, and then for each sort.
use mathlib.Core.Path.{◌≡◌, refl, sym, ap, ◌∙◌}
use mathlib.Core.List.{List, [], ◌∷◌, ◌++◌, flat_map}
use mathlib.Core.Option.{Option, none, some}
use mathlib.Core.Bool.{Bool, true, false, ◌&&◌, ◌||◌, not, false≢true}
use Prim.Native.Nat.{ℕ, zero, suc}
use native.Mathlib.Omega.{arith}
use lib.Dec.{eqb}
use borrow.Author.Tests.{ne_eqb}
use Rattle.laws.proofs.Flags.{split-or}
use Rattle.laws.specs.Lists.{any_of, only_if}
use Rattle.grid.specs.Cut.{Range}
use Rattle.definition.specs.Field.{got, read_all, Layout}
use Rattle.definition.specs.Rule.{weekday_bounds, week_bounds, month_bounds, year_bounds, YearRange, months, months_of, dated, WeekRange, fixed_days, holiday}
use Rattle.definition.specs.Range.{Ends, split, ranges}
use Rattle.definition.specs.Stop.{monthday_stops, every_nth, weekday_stops}
use Rattle.definition.specs.Point.{month_ends, weekday_ends}
use Rattle.definition.proofs.Reading.{all-parts}
use Rattle.canonical_date.specs.Says.{told, bounds_of, item_says, year_says, month_says, week_says, weekday_says}
use Rattle.canonical_date.specs.Row.{items_ranges, items_end, row_ranges}

-- what an item that passes says, and that one that stops says nothing
abbrev pub Passes : {A : Type 0} → (A → Option (List Range)) → (A → Bool) → (A → List Ends) → Range → Type 0
Passes {A} says stop ends b = (x : A) → stop x ≡ false → (e : Ends) × (ends x ≡ e ∷ []) × (says x ≡ some (split b e))

abbrev pub Halts : {A : Type 0} → (A → Option (List Range)) → (A → Bool) → Type 0
Halts {A} says stop = (x : A) → stop x ≡ true → says x ≡ none

-- ## Over the layout
module _ {A : Type 0} (L : Layout A) (says : A → Option (List Range)) (stop : A → Bool) (ends : A → List Ends) (sort : ℕ)
    (same : (s : List ℕ) (p : ℕ) → item_says sort s p ≡ told says (L.read s p)) where
  item-said : (s : List ℕ) (p : ℕ) (x : A) (q : ℕ) (R : List Range) → L.read s p ≡ got x q → says x ≡ some R → item_says sort s p ≡ some (R, q)
  item-said s p x q R e h = same s p ∙ rw (e, h)

  item-none : (s : List ℕ) (p : ℕ) (x : A) (q : ℕ) → L.read s p ≡ got x q → says x ≡ none → item_says sort s p ≡ none
  item-none s p x q e h = same s p ∙ rw (e, h)

  items-pass : Passes says stop ends (bounds_of sort) → (n : ℕ) (s : List ℕ) (p : ℕ) (xs : List A) (q : ℕ) → read_all L.read n s p ≡ got xs q → any_of stop xs ≡ false
      → (items_ranges sort n s p ≡ flat_map (split (bounds_of sort)) (flat_map ends xs)) × (items_end sort n s p ≡ some q)
  unfolding read_all items_ranges items_end flat_map any_of
  items-pass pass zero s p xs q e f =
      let z : p ≡ q = cc in
      let v : [] ≡ xs = cc in
      (ap (λ ys. flat_map (split (bounds_of sort)) (flat_map ends ys)) v, ap some z)
  items-pass pass (suc n) s p xs q e f =
      let w = all-parts L.read n s p xs q e in
      let g = split-or (stop w.0) (any_of stop w.2) (ap (any_of stop) w.5 ∙ f) in
      let k = pass w.0 g.0 in
      let rest = items-pass pass n s w.1 w.2 q w.4 g.1 in
      rw (item-said s p w.0 w.1 _ w.3 k.2, items_ranges, items_end) (
        ap (split (bounds_of sort) k.0 ++◌) rest.0 ∙ ap (λ es. flat_map (split (bounds_of sort)) (es ++ flat_map ends w.2)) (sym k.1)
            ∙ ap (λ ys. flat_map (split (bounds_of sort)) (flat_map ends ys)) w.5,
        rest.1,
      )

  pub items-halt : Passes says stop ends (bounds_of sort) → Halts says stop → (n : ℕ) (s : List ℕ) (p : ℕ) (xs : List A) (q : ℕ) → read_all L.read n s p ≡ got xs q → any_of stop xs ≡ true
      → items_end sort n s p ≡ none
  unfolding read_all items_end any_of
  items-halt pass halt zero s p xs q e f = let v : [] ≡ xs = cc in absurd (false≢true (ap (any_of stop) v ∙ f))
  items-halt pass halt (suc n) s p xs q e f =
      let w = all-parts L.read n s p xs q e in
      go w.0 w.1 w.2 w.3 (ap (any_of stop) w.5 ∙ f) (stop w.0) refl (λ g. items-halt pass halt n s w.1 w.2 q w.4 g)
    where
      go : (x : A) (j : ℕ) (ys : List A) → L.read s p ≡ got x j → stop x || any_of stop ys ≡ true → (t : Bool) → stop x ≡ t → (any_of stop ys ≡ true → items_end sort n s j ≡ none)
          → items_end sort (suc n) s p ≡ none
      go x j ys r g true h ih = rw (item-none s p x j r (halt x h), items_end)
      go x j ys r g false h ih = rw (item-said s p x j _ r (pass x h).2, items_end) (ih (rw h at g))

  pub row-pass : Passes says stop ends (bounds_of sort) → (n : ℕ) (s : List ℕ) (p : ℕ) (xs : List A) (q : ℕ) → read_all L.read n s p ≡ got xs q → any_of stop xs ≡ false
      → (row_ranges sort n s p ≡ ranges (bounds_of sort) (flat_map ends xs)) × (items_end sort n s p ≡ some q)
  unfolding read_all row_ranges ranges flat_map any_of
  row-pass pass zero s p xs q e f = let v : [] ≡ xs = cc in (ap (λ ys. ranges (bounds_of sort) (flat_map ends ys)) v, (items-pass pass zero s p xs q e f).1)
  row-pass pass (suc n) s p xs q e f =
      let w = all-parts L.read n s p xs q e in
      let k = pass w.0 (split-or (stop w.0) (any_of stop w.2) (ap (any_of stop) w.5 ∙ f)).0 in
      let rest = items-pass pass (suc n) s p xs q e f in
      let front : flat_map ends xs ≡ k.0 ∷ flat_map ends w.2 = ap (flat_map ends) (sym w.5) ∙ ap (λ es. es ++ flat_map ends w.2) k.1 in
      rw (ne_eqb (suc n) 0 (λ z. omega arith)) (rest.0 ∙ ap (flat_map (split (bounds_of sort))) front ∙ sym (ap (ranges (bounds_of sort)) front), rest.1)

-- ## Each sort
abbrev pub year_ends : YearRange → List Ends
year_ends y = (y.start, y.end) ∷ []

abbrev pub week_ends : WeekRange → List Ends
week_ends w = (w.start, w.end) ∷ []

step-one : {A : Type 0} (n : ℕ) (x : A) → not (eqb n 1) ≡ false → only_if (eqb n 1) x ≡ some x
step-one n x h = go (eqb n 1) h
  where
    go : (t : Bool) → not t ≡ false → only_if t x ≡ some x
    go true k = refl
    go false k = absurd (false≢true (sym k))

step_other : {A : Type 0} (n : ℕ) (x : A) → not (eqb n 1) ≡ true → only_if (eqb n 1) x ≡ none
step_other n x h = go (eqb n 1) h
  where
    go : (t : Bool) → not t ≡ true → only_if t x ≡ none
    go true k = absurd (false≢true k)
    go false k = refl

pub years-pass : Passes year_says (λ y. not (eqb y.step 1)) year_ends year_bounds
years-pass y h = ((y.start, y.end), refl, step-one y.step _ h)

pub years-halt : Halts year_says (λ y. not (eqb y.step 1))
years-halt y h = step_other y.step _ h

pub weeks-pass : Passes week_says (λ w. not (eqb w.step 1)) week_ends week_bounds
weeks-pass w h = ((w.start, w.end), refl, step-one w.step _ h)

pub weeks-halt : Halts week_says (λ w. not (eqb w.step 1))
weeks-halt w h = step_other w.step _ h

pub months-pass : Passes month_says monthday_stops month_ends month_bounds
months-pass (months a b) h = ((a, b), refl, refl)
months-pass (months_of a b y) h = absurd (false≢true (sym h))
months-pass (dated r) h = absurd (false≢true (sym h))

pub months-halt : Halts month_says monthday_stops
months-halt (months a b) h = absurd (false≢true h)
months-halt (months_of a b y) h = refl
months-halt (dated r) h = refl

pub weekdays-pass : Passes weekday_says weekday_stops weekday_ends weekday_bounds
weekdays-pass (holiday k o) h = absurd (false≢true (sym h))
weekdays-pass (fixed_days a b o s e) h = ((a, b), refl, go (eqb o 0) (eqb s every_nth) (eqb e every_nth) h)
  where
    go : (t u v : Bool) → not t || (not u || not v) ≡ false → only_if (t && (u && v)) (split weekday_bounds (a, b)) ≡ some (split weekday_bounds (a, b))
    go true true true k = refl
    go true true false k = absurd (false≢true (sym k))
    go true false v k = absurd (false≢true (sym k))
    go false u v k = absurd (false≢true (sym k))

pub weekdays-halt : Halts weekday_says weekday_stops
weekdays-halt (holiday k o) h = refl
weekdays-halt (fixed_days a b o s e) h = go (eqb o 0) (eqb s every_nth) (eqb e every_nth) h
  where
    go : (t u v : Bool) → not t || (not u || not v) ≡ true → only_if (t && (u && v)) (split weekday_bounds (a, b)) ≡ none
    go true true true k = absurd (false≢true k)
    go true true false k = refl
    go true false v k = refl
    go false u v k = refl
