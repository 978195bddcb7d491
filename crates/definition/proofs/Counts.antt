-- HOW LARGE PAGES ARE: there are no more pages than boxes, and no more lists; a page has in each dimension at most half as many runs as there are boxes, rounded
-- up, and its entries have few spans. Rests on the laws of groups, entries and spans.
use mathlib.Core.Path.{◌≡◌, refl, sym, ap, ap₂, subst}
use mathlib.Core.List.{List, [], ◌∷◌, map, flat_map}
use mathlib.Core.Option.{none}
use mathlib.Core.Bool.{Bool, true, false, cond}
use Prim.Native.Nat.{ℕ, zero, suc, ◌*◌, ◌≤◌}
use native.Mathlib.Nat.{mul-le-mul_right}
use native.Mathlib.Omega.{arith}
use lib.Dec.{eqb}
use lib.ListN.{length, length-append, length-map, take, replicate}
use Rattle.laws.specs.Lists.{keep, filled, All}
use Rattle.laws.proofs.Lists.{All-map, All-append, Mem-All}
use Rattle.laws.proofs.Distinct.{kept-all, distinct-few}
use Rattle.laws.proofs.Tests.{exact-eqb, exact-list, exact-pair}
use Rattle.grid.specs.Group.{Set, Group, size, points_of, groups}
use Rattle.grid.specs.Cut.{Range, same_range, cuts, intervals, boxes, starts, joined, as_joined}
use Rattle.grid.proofs.Part.{Part, groups-part}
use Rattle.grid.proofs.Values.{points-many}
use Rattle.grid.proofs.Count.{groups-count, runs-half, length-between, boxes-wide}
use Rattle.definition.specs.Rule.{State, Span, Rule}
use Rattle.definition.specs.Point.{Dimension, dimensions, all_bounds, replaces, after, selector, combinations, list_from, list_at}
use Rattle.definition.specs.Sheet.{Limits}
use Rattle.definition.specs.Lists.{indexes_at, list_count, first_refused}
use Rattle.definition.specs.Box.{all_ranges, box_count}
use Rattle.definition.specs.Day.{Day, stated, flattened, entry_of, day}
use Rattle.definition.specs.Group.{same_day, day_at, day_classes, pages}
use Rattle.definition.specs.OverBoxes.{cut_ranges, rule_boxes, list_count_over_boxes, day_over_intervals, pages_over_boxes}
use Rattle.definition.proofs.Same.{exact-day}
use Rattle.definition.proofs.Lawful.{Lawful}
use Rattle.definition.proofs.FoldBox.{count-boxes, pages-boxes}
use Rattle.definition.proofs.Lists.{short-lists}
use Rattle.definition.proofs.Groups.{classes-empty, pages-each}
use Rattle.definition.proofs.Spans.{Brief, day-brief}

-- ## Boxes
size-count : (ds : List Dimension) (rs : List Rule) → size (boxes (map (λ d. d.bounds) ds) (map (all_ranges rs) ds)) ≡ box_count ds rs
unfolding boxes size box_count intervals
size-count [] rs = refl
size-count (d ∷ ds) rs = ap₂ ◌*◌ (length-between (cuts d.bounds (all_ranges rs d))) (size-count ds rs)

-- a part's runs are few in each dimension
part-few : (n : ℕ) (bs : List Range) (Rs : List (List Range)) → All (λ D. length D ≤ n) (boxes bs Rs) → (S : Set Range) → Part (boxes bs Rs) S
    → All (λ R. 2 * length R ≤ suc n) (map joined S)
unfolding boxes
part-few n [] Rs w [] p = tt
part-few n [] Rs w (E ∷ S) p = absurd p
part-few n (b ∷ bs) [] w [] p = tt
part-few n (b ∷ bs) [] w (E ∷ S) p = absurd p
part-few n (b ∷ bs) (R ∷ Rs) w [] p = absurd p
part-few n (b ∷ bs) (R ∷ Rs) w (E ∷ S) p = (
  let e : length (joined E) ≡ length (joined (keep p.0.0 (intervals b R))) = ap (λ F. length (joined F)) p.0.1 in
      omega (arith, e, runs-half p.0.0 b R, w.0),
  part-few n bs Rs w.1 S p.1,
)

module _ (rs : List Rule) (h : All Lawful rs) where
  -- no more pages than boxes
  pub pages-count : length (pages rs) ≤ box_count dimensions rs
  unfolding pages_over_boxes
  pages-count =
      let gs = groups same_day same_range [] day_classes (rule_boxes rs) (λ is. day_over_intervals (list_at rs (starts is))) in
      omega (
        arith,
        ap length (pages-boxes rs h),
        length-map gs as_joined,
        size-count dimensions rs,
        groups-count exact-day (exact-pair exact-eqb exact-eqb) [] (rule_boxes rs) day_classes classes-empty (λ is. day_over_intervals (list_at rs (starts is))),
      )

  -- no more lists than boxes
  pub lists-count : (n : ℕ) → list_count rs n ≤ box_count dimensions rs
  unfolding list_count_over_boxes
  lists-count n =
      let ls = map (λ is. indexes_at (take n rs) (starts is)) (points_of (rule_boxes rs)) in
      omega (
        arith,
        count-boxes rs h n,
        distinct-few (exact-list exact-eqb) (keep filled ls) ls (kept-all _ filled ls (Mem-All _ ls (λ l m _. m))),
        length-map (points_of (rule_boxes rs)) (λ is. indexes_at (take n rs) (starts is)),
        points-many (rule_boxes rs),
        size-count dimensions rs,
      )

  -- a page's runs are at most half the boxes
  pub pages-few : All (λ g. All (λ R. 2 * length R ≤ suc (box_count dimensions rs)) g.1) (pages rs)
  unfolding pages_over_boxes
  pages-few = subst (All (λ g. All (λ R. 2 * length R ≤ suc (box_count dimensions rs)) g.1)) (sym (pages-boxes rs h))
      (each (groups same_day same_range [] day_classes (rule_boxes rs) (λ is. day_over_intervals (list_at rs (starts is))))
      (groups-part same_day same_range [] (rule_boxes rs) day_classes (λ is. day_over_intervals (list_at rs (starts is)))))
    where
      narrow : All (λ D. length D ≤ box_count dimensions rs) (rule_boxes rs)
      narrow = subst (λ n. All (λ D. length D ≤ n) (rule_boxes rs)) (size-count dimensions rs) (boxes-wide all_bounds (cut_ranges rs)).1

      each : (gs : List (Group Range Day)) → All (λ g. Part (rule_boxes rs) g.1) gs
          → All (λ g. All (λ R. 2 * length R ≤ suc (box_count dimensions rs)) g.1) (map as_joined gs)
      each [] p = tt
      each (g ∷ gs) p = (part-few (box_count dimensions rs) all_bounds (cut_ranges rs) narrow g.1 p.0, each gs p.1)

-- ## Spans
-- the list at a point has none but the rules
pub list-from : (P : Rule → Type 0) (l rs : List Rule) (p : List ℕ) → All P l → All P rs → All P (list_from l rs p)
unfolding list_from
list-from P l [] p k h = k
list-from P l (r ∷ rs) p k h = list-from P (after (replaces r) r (combinations (selector dimensions r) p) l) rs p (next (combinations (selector dimensions r) p)) h.1
  where
    copies : (n : ℕ) → All P (replicate n r)
    copies zero = tt
    copies (suc n) = (h.0, copies n)

    next : (n : ℕ) → All P (after (replaces r) r n l)
    next n = go (replaces r) refl (eqb n 0)
      where
        either : (c : Bool) → All P (cond c l (r ∷ []))
        either true = k
        either false = (h.0, tt)

        go : (b : Bool) → replaces r ≡ b → (c : Bool) → All P (after (replaces r) r n l)
        go true e c = unfold after in rw (e, after) (either (eqb n 0))
        go false e c = unfold after in rw (e, after) (All-append P l (replicate n r) k (copies n))

-- a list's spans in all
spans-count : (n : ℕ) (l : List Rule) → All (λ r. length r.spans ≤ n) l → length (flattened (map entry_of l)) ≤ length l * n
unfolding flattened flat_map
spans-count n [] h = omega arith
spans-count n (r ∷ l) h =
    omega (
      arith,
      length-append (stated (entry_of r)) (flat_map stated (map entry_of l)),
      length-map {B = State × Span} r.spans (λ s. (r.state, s)),
      h.0,
      spans-count n l h.1,
    )

-- every entry of a page has few spans
pub pages-brief : (limits : Limits) (n : ℕ) (rs : List Rule) → first_refused limits rs ≡ none → All (λ r. length r.spans ≤ n) rs
    → All (λ g. Brief (suc (limits.entries * n)) g.0) (pages rs)
unfolding day_at
pages-brief limits n rs e h = pages-each rs (Brief (suc (limits.entries * n))) tt
    (λ p i.
    All-map (λ x k. omega (arith, k, spans-count n (list_at rs p) (list-from _ [] rs p tt h), mul-le-mul_right n (short-lists limits rs e p i)))
    (day (list_at rs p)) (day-brief (list_at rs p)))
