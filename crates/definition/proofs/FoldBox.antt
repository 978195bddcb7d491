-- THE FOLD OVER POINTS IS THE FOLD OVER BOXES, for all lawful rules, and so for every sheet. Rests on grid's law that points are boxes, and on
-- the same law of days and of overlaps.
use mathlib.Core.Path.{◌≡◌, refl, ap, ap₂, ◌∙◌}
use mathlib.Core.List.{List, [], ◌∷◌, ◌++◌, map, flat_map}
use mathlib.Core.Bool.{Bool, true, false, cond}
use mathlib.Core.Option.{Option}
use Prim.Native.Nat.{ℕ, suc, ◌+◌, ◌*◌, ◌<◌}
use native.Mathlib.Omega.{arith}
use lib.Dec.{eqb, ltb}
use lib.ListN.{length, take}
use Rattle.laws.specs.Lists.{from, first_of, count, filled, All}
use Rattle.laws.specs.Tests.{same_list}
use Rattle.laws.proofs.Lists.{All-map, All-take}
use Rattle.laws.proofs.Tests.{exact-eqb, exact-list}
use Rattle.laws.proofs.Spread.{flat_map-all}
use Rattle.grid.specs.Group.{Map, somewhere, groups}
use Rattle.grid.specs.Cut.{Range, same_range, holds, starts, as_joined}
use Rattle.grid.proofs.Cut.{Inside, Marks}
use Rattle.grid.proofs.Values.{values-counted}
use Rattle.grid.proofs.Box.{Proper, Within, SameMarks, somewhere-boxes, groups-boxes}
use Rattle.definition.specs.Rule.{Rule}
use Rattle.definition.specs.Field.{Read, got, refused}
use Rattle.definition.specs.Sheet.{Form, Limits, decode}
use Rattle.definition.specs.Range.{ranges}
use Rattle.definition.specs.Stop.{stops, drained}
use Rattle.definition.specs.Point.{Dimension, dimensions, all_bounds, points, selector, combinations, list_at}
use Rattle.definition.specs.Lists.{indexes_at, list_count, too_long, refused_at, first_refused}
use Rattle.definition.specs.Box.{all_ranges}
use Rattle.definition.specs.Day.{day}
use Rattle.definition.specs.Group.{same_day, day_at, day_classes, pages, folded, rules_of}
use Rattle.definition.specs.Fold.{judged, drain, fold_rules, fold}
use Rattle.definition.specs.OverBoxes.{fold_over_boxes, cut_ranges, rule_boxes, list_count_over_boxes, first_refused_over_boxes, drain_over_boxes, pages_over_boxes, folded_over_boxes}
use Rattle.definition.proofs.Bits.{Bytes}
use Rattle.definition.proofs.SheetRead.{encode-decoded}
use Rattle.definition.proofs.Same.{exact-day}
use Rattle.definition.proofs.DayBox.{day-intervals}
use Rattle.definition.proofs.Lawful.{Lawful, LawfulIn, ranges-inside, rules-lawful}
use Rattle.definition.proofs.Overlap.{first-overlap-ends}
use Rattle.definition.proofs.Points.{Alike, list-alike, indexes-alike}

pub bounds-proper : Proper all_bounds
bounds-proper = omega arith

-- ## The ranges of lawful rules lie within the bounds
ranges-within : (d : Dimension) → d.bounds.0 < d.bounds.1 → (rs : List Rule) → All (λ r. LawfulIn r d) rs → All (Inside d.bounds) (all_ranges rs d)
ranges-within d proper rs h =
    flat_map-all (Inside d.bounds) (λ r. ranges d.bounds (d.items r)) rs (All-map (λ r k. ranges-inside d.bounds proper (d.items r) k) rs h)

-- dimension by dimension
by-dimension : (ds : List Dimension) (rs : List Rule) → All (λ r. All (LawfulIn r) ds) rs → All (λ d. All (λ r. LawfulIn r d) rs) ds
by-dimension [] rs h = tt
by-dimension (d ∷ ds) rs h = (All-map (λ r k. k.0) rs h, by-dimension ds rs (All-map (λ r k. k.1) rs h))

pub lawful-within : (rs : List Rule) → All Lawful rs → Within all_bounds (cut_ranges rs)
lawful-within rs h = go dimensions bounds-proper (by-dimension dimensions rs h)
  where
    go : (ds : List Dimension) → Proper (map (λ d. d.bounds) ds) → All (λ d. All (λ r. LawfulIn r d) rs) ds
        → Within (map (λ d. d.bounds) ds) (map (all_ranges rs) ds)
    go [] o k = tt
    go (d ∷ ds) o k = (ranges-within d o.0 rs k.0, go ds o.1 k.1)

-- ## Points with the same marks have the same list
count-marks : (R : List Range) (x y : ℕ) → Marks R x y → count (holds x) R ≡ count (holds y) R
unfolding count
count-marks [] x y h = refl
count-marks (r ∷ R) x y h = ap₂ (λ b n. cond b 1 0 + n) h.0 (count-marks R x y h.1)

combinations-marks : (Rs : List (List Range)) (p q : List ℕ) → SameMarks Rs p q → combinations Rs p ≡ combinations Rs q
unfolding combinations
combinations-marks [] p q h = refl
combinations-marks (R ∷ Rs) [] [] h = refl
combinations-marks (R ∷ Rs) [] (y ∷ q) h = absurd h
combinations-marks (R ∷ Rs) (x ∷ p) [] h = absurd h
combinations-marks (R ∷ Rs) (x ∷ p) (y ∷ q) h = ap₂ ◌*◌ (count-marks R x y h.0) (combinations-marks Rs p q h.1)

marks-append : (R Q : List Range) (x y : ℕ) → Marks (R ++ Q) x y → Marks R x y × Marks Q x y
marks-append [] Q x y h = (tt, h)
marks-append (r ∷ R) Q x y h = let k = marks-append R Q x y h.1 in ((h.0, k.0), k.1)

-- the marks of a rule's ranges, and those of the rules after it
marks-split : (ds : List Dimension) (r : Rule) (rs : List Rule) (p q : List ℕ) → SameMarks (map (all_ranges (r ∷ rs)) ds) p q
    → SameMarks (selector ds r) p q × SameMarks (map (all_ranges rs) ds) p q
unfolding selector flat_map
marks-split [] r rs p q h = (tt, tt)
marks-split (d ∷ ds) r rs [] [] h = (tt, tt)
marks-split (d ∷ ds) r rs [] (y ∷ q) h = absurd h
marks-split (d ∷ ds) r rs (x ∷ p) [] h = absurd h
marks-split (d ∷ ds) r rs (x ∷ p) (y ∷ q) h =
    let k = marks-append (ranges d.bounds (d.items r)) (all_ranges rs d) x y h.0 in
    let l = marks-split ds r rs p q h.1 in
    ((k.0, l.0), (k.1, l.1))

marks-alike : (rs : List Rule) (p q : List ℕ) → SameMarks (cut_ranges rs) p q → Alike rs p q
marks-alike [] p q h = tt
marks-alike (r ∷ rs) p q h = let k = marks-split dimensions r rs p q h in (combinations-marks (selector dimensions r) p q k.0, marks-alike rs p q k.1)

-- after the first n rules, by rules and by indexes; and after all
pub list-marks : (rs : List Rule) (n : ℕ) (p q : List ℕ) → SameMarks (cut_ranges rs) p q → list_at (take n rs) p ≡ list_at (take n rs) q
list-marks rs n p q h = list-alike [] (take n rs) p q (All-take _ n rs (marks-alike rs p q h))

pub indexes-marks : (rs : List Rule) (n : ℕ) (p q : List ℕ) → SameMarks (cut_ranges rs) p q → indexes_at (take n rs) p ≡ indexes_at (take n rs) q
indexes-marks rs n p q h = indexes-alike 0 [] (take n rs) p q (All-take _ n rs (marks-alike rs p q h))

pub list_all : (rs : List Rule) (p q : List ℕ) → SameMarks (cut_ranges rs) p q → list_at rs p ≡ list_at rs q
list_all rs p q h = list-alike [] rs p q (marks-alike rs p q h)

module _ (rs : List Rule) (h : All Lawful rs) where
  -- a test that each point answers as its box does
  some-box : (t : Map ℕ Bool) → ((p q : List ℕ) → SameMarks (cut_ranges rs) p q → t p ≡ t q) → somewhere points t ≡ somewhere (rule_boxes rs) (λ is. t (starts is))
  some-box t by = somewhere-boxes all_bounds bounds-proper (cut_ranges rs) (lawful-within rs h) t by

  -- 6 and 14
  long-boxes : (limit k : ℕ) → somewhere points (too_long limit rs k) ≡ somewhere (rule_boxes rs) (λ is. too_long limit rs k (starts is))
  unfolding too_long
  long-boxes limit k = some-box (too_long limit rs k) (λ p q m. ap (λ l. ltb limit (length l)) (list-marks rs (suc k) p q m))

  pub count-boxes : (n : ℕ) → list_count rs n ≡ list_count_over_boxes rs n
  unfolding list_count list_count_over_boxes
  count-boxes n =
      values-counted (exact-list exact-eqb) filled points (indexes_at (take n rs)) (rule_boxes rs) (λ is. indexes_at (take n rs) (starts is))
      (λ w. some-box (λ p. same_list eqb w (indexes_at (take n rs) p)) (λ p q m. ap (same_list eqb w) (indexes-marks rs n p q m)))

  refused-boxes : (limits : Limits) → first_refused limits rs ≡ first_refused_over_boxes limits rs
  unfolding first_refused first_refused_over_boxes
  refused-boxes limits =
      ap (λ (t : ℕ → Option (ℕ × ℕ)). first_of t (from 0 (length rs))) (λ i k. ap₂ (refused_at limits k) (long-boxes limits.entries k) (count-boxes (suc k)) i)

  pub drain-boxes : (limits : Limits) → drain limits rs ≡ drain_over_boxes limits rs
  unfolding drain drain_over_boxes
  drain-boxes limits = ap₂ (judged limits rs) (first-overlap-ends rs h) (refused-boxes limits)

  -- the groups
  pub pages-boxes : pages rs ≡ pages_over_boxes rs
  unfolding pages pages_over_boxes day_at
  pages-boxes =
      groups-boxes all_bounds bounds-proper (cut_ranges rs) (lawful-within rs h) exact-day [] day_classes (refl, (refl, (refl, (refl, (refl, tt))))) (day_at rs)
      (λ p q m. ap day (list_all rs p q m))
      ∙ ap (λ f. map as_joined (groups same_day same_range [] day_classes (rule_boxes rs) f)) (λ i is. day-intervals (list_at rs (starts is)) i)

  pub folded-boxes : folded rs ≡ folded_over_boxes rs
  unfolding folded folded_over_boxes
  folded-boxes = ap (flat_map rules_of) pages-boxes

-- ## Every sheet
pub drained-all : (P : Rule → Type 0) (rs : List Rule) → All P rs → All P (drained rs)
unfolding drained
drained-all P [] h = tt
drained-all P (r ∷ rs) h = go (stops r) refl (drained-all P rs h.1)
  where
    go : (b : Bool) → stops r ≡ b → All P (drained rs) → All P (drained (r ∷ rs))
    go true e ih = rw (e, drained) tt
    go false e ih = rw (e, drained) (h.0, ih)

-- THE FOLD OF A SHEET OVER POINTS IS ITS FOLD OVER BOXES
pub fold-boxes : (form : Form) (limits : Limits) (room : ℕ) (s : List ℕ) → Bytes s → fold form limits room s ≡ fold_over_boxes form limits room s
unfolding fold fold_over_boxes
fold-boxes form limits room s h = go (decode form limits s) refl
  where
    go : (r : Read (List Rule)) → decode form limits s ≡ r → fold form limits room s ≡ fold_over_boxes form limits room s
    go (refused c p) e = rw (e, fold, fold_over_boxes)
    go (got rs q) e =
        let k = drained-all Lawful rs (rules-lawful form limits rs (encode-decoded form limits s h rs q e).0) in
        rw (e, fold, fold_over_boxes) (ap₂ (λ j page. fold_rules form limits room rs j page)
        (drain-boxes (drained rs) k limits) (folded-boxes (drained rs) k))
