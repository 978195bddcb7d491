-- The same definitions over the boxes between the cuts of the rules' ranges, days over the intervals between their spans' ends, and overlaps over
-- the ranges' ends: few enough to be computed. No promise speaks of them; proofs/ show that they equal the definitions over points and minutes.
use mathlib.Core.List.{List, [], ◌∷◌, ◌++◌, map, flat_map}
use Rattle.std.proofs.Math.Option.{Option}
use Rattle.std.specs.Prelude.{Bool, ◌&&◌, ℕ, suc, ltb, length, take}
use Rattle.laws.specs.Lists.{from, first_of, any_of, any_pair, first_index}
use Rattle.grid.specs.Group.{Set, points_of, groups, somewhere}
use Rattle.grid.specs.Cut.{Range, same_range, boxes, starts, as_joined}
use Rattle.definition.specs.Rule.{closed, same_state, Rule}
use Rattle.definition.specs.Field.{got, refused}
use Rattle.definition.specs.Sheet.{Form, Limits, decode}
use Rattle.definition.specs.Stop.{drained}
use Rattle.definition.specs.Point.{dimensions, all_bounds, selector, list_at}
use Rattle.definition.specs.Lists.{indexes_at, distinct_lists, too_long, refused_at}
use Rattle.definition.specs.Box.{all_ranges}
use Rattle.definition.specs.Day.{Stated, Day, entry_of, flattened, minutes_of, minute_bounds, painted, painting, grouped, sorted_entry, as_entry, state_classes}
use Rattle.definition.specs.Group.{same_day, day_classes, Page, rules_of}
use Rattle.definition.specs.Fold.{Folded, refusal, Drained, judged, fold_rules}

-- ## A day
abbrev pub span_ranges : List Stated → List (List Range)
span_ranges xs = map (λ x. minutes_of x.1) xs ∷ []

unfoldable pub painted_over_intervals : List Stated → Day
painted_over_intervals xs =
    map as_entry (map as_joined (groups same_state same_range closed state_classes (boxes (minute_bounds ∷ []) (span_ranges xs)) (λ is. painted xs (starts is))))

unfoldable pub day_over_intervals : List Rule → Day
day_over_intervals l = let xs = flattened (map entry_of l) in painted_over_intervals (painting xs) ++ map sorted_entry (grouped xs)

-- ## Overlaps
-- two ranges share a value where each begins before the other ends
abbrev pub meets : Range → Range → Bool
meets a b = ltb a.0 b.1 && ltb b.0 a.1

-- some two ranges of one dimension do; an item that wraps gives two, which never share one
unfoldable pub overlaps_over_ends : Rule → Bool
overlaps_over_ends r = any_of (any_pair meets) (selector dimensions r)

unfoldable pub first_overlap_over_ends : List Rule → Option ℕ
first_overlap_over_ends rs = first_index overlaps_over_ends rs

-- ## The fold
abbrev pub cut_ranges : List Rule → List (List Range)
cut_ranges rs = map (all_ranges rs) dimensions

abbrev pub rule_boxes : List Rule → Set Range
rule_boxes rs = boxes all_bounds (cut_ranges rs)

unfoldable pub list_count_over_boxes : List Rule → ℕ → ℕ
list_count_over_boxes rs n = length (distinct_lists (map (λ is. indexes_at (take n rs) (starts is)) (points_of (rule_boxes rs))))

unfoldable pub first_refused_over_boxes : Limits → List Rule → Option (ℕ × ℕ)
first_refused_over_boxes limits rs =
    first_of (λ k. refused_at limits k (somewhere (rule_boxes rs) (λ is. too_long limits.entries rs k (starts is))) (list_count_over_boxes rs (suc k))) (from 0 (length rs))

unfoldable pub drain_over_boxes : Limits → List Rule → Drained
drain_over_boxes limits rs = judged limits rs (first_overlap_over_ends rs) (first_refused_over_boxes limits rs)

unfoldable pub pages_over_boxes : List Rule → List Page
pages_over_boxes rs = map as_joined (groups same_day same_range [] day_classes (rule_boxes rs) (λ is. day_over_intervals (list_at rs (starts is))))

unfoldable pub folded_over_boxes : List Rule → List Rule
folded_over_boxes rs = flat_map rules_of (pages_over_boxes rs)

unfoldable pub fold_over_boxes : Form → Limits → ℕ → List ℕ → Folded
fold_over_boxes form limits room sheet = elim (decode form limits sheet) [
  | refused c p ↦ refusal c p
  | got rs q ↦ fold_rules form limits room rs (drain_over_boxes limits (drained rs)) (folded_over_boxes (drained rs))
]
