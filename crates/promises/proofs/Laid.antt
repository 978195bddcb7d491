-- A RULE LAID OVER A SET'S RUNS covers the set's points once, and no others; it keeps its operator, state and spans, and its days don't stop
-- it; all rules laid over one set have the same days. Rests on the law of items.
use mathlib.Core.Path.{◌≡◌, refl, ap, ap₂, ◌∙◌}
use mathlib.Core.List.{List, [], ◌∷◌, ◌++◌, map, flat_map}
use mathlib.Core.Bool.{Bool, true, false, ◌&&◌, ◌||◌, not, cond, false≢true}
use Prim.Native.Nat.{ℕ, ◌*◌, ◌-◌, ◌≤◌, ◌<◌}
use native.Mathlib.Omega.{arith}
use lib.Dec.{eqb, leb, ltb}
use borrow.Author.Tests.{leb-true, leb-false, ltb-true, ltb-false}
use Rattle.laws.specs.Lists.{any_of, count, All, Filled}
use Rattle.laws.proofs.Flags.{split-and}
use Rattle.laws.proofs.Numbers.{from-below, from-above}
use Rattle.grid.specs.Group.{Set, inside}
use Rattle.grid.specs.Cut.{Range, holds, coordinates, runs}
use Rattle.grid.proofs.Part.{Part}
use Rattle.grid.proofs.Box.{Proper}
use Rattle.grid.proofs.Cut.{in-holds}
use Rattle.definition.specs.Rule.{Operator, YearRange, WeekRange, Rule}
use Rattle.definition.specs.Range.{Ends, ranges}
use Rattle.definition.specs.Stop.{is_fallback, monthday_stops, weekday_stops, span_stops, stops}
use Rattle.definition.specs.Point.{dimensions, all_bounds, points, weekday_ends, month_ends, selector, combinations}
use Rattle.definition.specs.Day.{Entry, entry_of}
use Rattle.definition.specs.Group.{items_of, laid_over, as_rule}
use Rattle.promises.specs.Meaning.{SameDays}
use Rattle.promises.proofs.Items.{items-count}

-- ## The ranges of a set
-- the ranges of the items that a set's runs are written as
unfoldable pub set_ranges : List Range → Set ℕ → List (List Range)
set_ranges [] S = []
set_ranges (b ∷ bs) [] = []
set_ranges (b ∷ bs) (E ∷ S) = ranges b (items_of b (runs E)) ∷ set_ranges bs S

-- a coordinate of a dimension lies in its bounds
coordinate-holds : (b : Range) → b.0 < b.1 → (x : ℕ) → any_of (eqb x) (coordinates b) ≡ true → holds x b ≡ true
coordinate-holds b proper x h = low (leb b.0 x) refl
  where
    high : b.0 ≤ x → (v : Bool) → ltb x b.1 ≡ v → holds x b ≡ true
    high l true e = in-holds x b l (ltb-true x b.1 e)
    high l false e = let k = ltb-false x b.1 e in absurd (false≢true (rw (from-above x b.0 (b.1 - b.0) (omega arith)) at h))

    low : (v : Bool) → leb b.0 x ≡ v → holds x b ≡ true
    low true e = high (leb-true b.0 x e) (ltb x b.1) refl
    low false e = let k = leb-false b.0 x e in absurd (false≢true (rw (from-below x b.0 (b.1 - b.0) (omega arith)) at h))

-- they cover the set's points once, and no others
pub set-combinations : (bs : List Range) → Proper bs → (S : Set ℕ) → Part (map coordinates bs) S → All Filled S → (p : List ℕ)
    → inside eqb (map coordinates bs) p ≡ true
    → combinations (set_ranges bs S) p ≡ cond (inside eqb S p) 1 0
unfolding inside set_ranges combinations
set-combinations [] o [] k f [] i = refl
set-combinations [] o [] k f (x ∷ p) i = absurd (false≢true i)
set-combinations [] o (E ∷ S) k f p i = absurd k
set-combinations (b ∷ bs) o [] k f p i = absurd k
set-combinations (b ∷ bs) o (E ∷ S) k f [] i = absurd (false≢true i)
set-combinations (b ∷ bs) o (E ∷ S) k f (x ∷ p) i =
    ap₂ ◌*◌ first (set-combinations bs o.1 S k.1 f.1 p both.1) ∙ product (any_of (eqb x) E) (inside eqb S p)
  where
    both : (any_of (eqb x) (coordinates b) ≡ true) × (inside eqb (map coordinates bs) p ≡ true)
    both = split-and (any_of (eqb x) (coordinates b)) (inside eqb (map coordinates bs) p) i

    first : count (holds x) (ranges b (items_of b (runs E))) ≡ cond (any_of (eqb x) E) 1 0
    first = rw k.0.1 (items-count b k.0.0 x (coordinate-holds b o.0 x both.0) (rw k.0.1 at f.0))

    product : (a c : Bool) → cond a 1 0 * cond c 1 0 ≡ cond (a && c) 1 0
    product true true = refl
    product true false = refl
    product false true = refl
    product false false = refl

-- ## Rules laid over a set
module _ {A : Type 0} (make : Ends → A) where
  ends-back : (f : A → List Ends) → ((e : Ends) → f (make e) ≡ e ∷ []) → (es : List Ends) → flat_map f (map make es) ≡ es
  unfolding flat_map
  ends-back f h [] = refl
  ends-back f h (e ∷ es) = ap₂ ◌++◌ (h e) (ends-back f h es)

  pairs-back : (f : A → Ends) → ((e : Ends) → f (make e) ≡ e) → (es : List Ends) → map f (map make es) ≡ es
  pairs-back f h [] = refl
  pairs-back f h (e ∷ es) = ap₂ ◌∷◌ (h e) (pairs-back f h es)

  none_made : (t : A → Bool) → ((e : Ends) → t (make e) ≡ false) → (es : List Ends) → any_of t (map make es) ≡ false
  unfolding any_of
  none_made t h [] = refl
  none_made t h (e ∷ es) = rw (h e) (none_made t h es)

neither : (a b : Bool) → a ≡ false → b ≡ false → a || b ≡ false
neither a b f g = rw (f, g)

-- what is known of a way to lay rules; none of them stops, if its spans don't
pub record Lays (S : Set ℕ) (lay : Rule → Rule) : Type 0 where
  pub laid-ranges : (o : Operator) (e : Entry) → selector dimensions (lay (as_rule o e)) ≡ set_ranges all_bounds S
  pub laid-entry : (o : Operator) (e : Entry) → entry_of (lay (as_rule o e)) ≡ e
  pub laid-operator : (o : Operator) (e : Entry) → (lay (as_rule o e)).operator ≡ o
  pub laid-goes : (o : Operator) (e : Entry) → is_fallback o ≡ false → any_of span_stops e.1 ≡ false → stops (lay (as_rule o e)) ≡ false
  pub laid-days : (o n : Operator) (e f : Entry) → SameDays (lay (as_rule o e)) (lay (as_rule n f))

pub laid : (S : Set ℕ) → Part points S → Lays S (laid_over dimensions (map runs S))
unfolding laid_over selector set_ranges stops
laid [] k = absurd k
laid (D ∷ []) k = absurd k.1
laid (D ∷ W ∷ []) k = absurd k.1.1
laid (D ∷ W ∷ M ∷ []) k = absurd k.1.1.1
laid (D ∷ W ∷ M ∷ Y ∷ Z ∷ S) k = absurd k.1.1.1.1
laid (D ∷ W ∷ M ∷ Y ∷ []) k = record {
  laid-ranges = λ o e. ap₂ ◌∷◌ (ap (ranges _) (ends-back _ weekday_ends (λ e. refl) (items_of _ (runs D))))
      (ap₂ ◌∷◌ (ap (ranges _) (pairs-back _ (λ (w : WeekRange). (w.start, w.end)) (λ e. refl) (items_of _ (runs W))))
      (ap₂ ◌∷◌ (ap (ranges _) (ends-back _ month_ends (λ e. refl) (items_of _ (runs M))))
      (ap₂ ◌∷◌ (ap (ranges _) (pairs-back _ (λ (y : YearRange). (y.start, y.end)) (λ e. refl) (items_of _ (runs Y)))) refl)));
  laid-entry = λ o e. refl;
  laid-operator = λ o e. refl;
  laid-goes = λ o e f h. neither _ _ f (neither _ _ (none_made _ (λ (y : YearRange). not (eqb y.step 1)) (λ e. refl) (items_of _ (runs Y)))
      (neither _ _ (none_made _ monthday_stops (λ e. refl) (items_of _ (runs M)))
      (neither _ _ (none_made _ (λ (w : WeekRange). not (eqb w.step 1)) (λ e. refl) (items_of _ (runs W)))
      (neither _ _ (none_made _ weekday_stops (λ e. refl) (items_of _ (runs D))) h))));
  laid-days = λ o n e f. record { same-years = refl; same-monthdays = refl; same-weeks = refl; same-weekdays = refl };
}
