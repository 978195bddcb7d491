-- FROM PAGES TO RULES: a page's items, over the day that its value numbers, are the definition's rules of the group. A row's first and last
-- cuts are its dimension's bounds; and rows that hold the rules' cuts are what popping requires. Rests on the laws of the points of a box.
use mathlib.Core.Path.{◌≡◌, sym, ap, ap₂, ◌∙◌}
use mathlib.Core.List.{List, [], ◌∷◌, map, flat_map, head-eq_of_cons-eq}
use Prim.Native.Nat.{ℕ, zero, suc, ◌+◌, ◌-◌, ◌≤◌, ◌<◌}
use native.Mathlib.Omega.{arith}
use lib.Dec.{eqb}
use lib.ListN.{length, get_or}
use Rattle.laws.specs.Lists.{from}
use Rattle.laws.proofs.Lists.{All-map}
use Rattle.laws.proofs.Numbers.{length_from}
use Rattle.laws.proofs.Spread.{flat_map-map}
use Rattle.grid.specs.Group.{Set}
use Rattle.grid.specs.Cut.{joined}
use Rattle.grid.proofs.Part.{Part, groups-part}
use Rattle.definition.specs.Rule.{Rule}
use Rattle.definition.specs.Point.{Dimension, year_dimension, month_dimension, week_dimension, weekday_dimension, dimensions}
use Rattle.definition.specs.Day.{Day}
use Rattle.definition.specs.Group.{items_of, laid_over, as_rules, rules_of, pages, folded}
use Rattle.paving.specs.Grid.{axes, grid}
use Rattle.paving.specs.Sweep.{classes_from, groups_from}
use Rattle.tables.specs.Cuts.{cut_of, CutBy, interval_at}
use Rattle.paving_points.specs.Paged.{runs_of, page_of}
use Rattle.paving_points.proofs.Boxes.{Bounded, cuts-rise, cuts-points}
use Rattle.paving_pages.specs.Pages.{CutRows, sort_items, page_items}
use Rattle.paving_pages.specs.Sorts.{sorts, over_sorts, group_rules}

-- ## A group's set has the four sorts
-- what holds of any four lists, weekdays first, holds of a part of four dimensions
pub by-sorts : (sizes : List ℕ) (P : Set ℕ → Type 0) → ((D K M Y : List ℕ) → Part (axes sizes 4) (D ∷ K ∷ M ∷ Y ∷ []) → P (D ∷ K ∷ M ∷ Y ∷ [])) → (S : Set ℕ) → Part (axes sizes 4) S → P S
unfolding axes
by-sorts sizes P h [] p = absurd p
by-sorts sizes P h (D ∷ []) p = absurd p.1
by-sorts sizes P h (D ∷ K ∷ []) p = absurd p.1.1
by-sorts sizes P h (D ∷ K ∷ M ∷ []) p = absurd p.1.1.1
by-sorts sizes P h (D ∷ K ∷ M ∷ Y ∷ []) p = h D K M Y p
by-sorts sizes P h (D ∷ K ∷ M ∷ Y ∷ X ∷ S) p = absurd p.1.1.1.1

-- ## A row's ends
from-same : (a m c n : ℕ) → from a m ≡ from c (suc n) → (a ≡ c) × (m ≡ suc n)
unfolding from
from-same a zero c n e = let z : 0 ≡ suc n = ap length e ∙ length_from c (suc n) in absurd (omega arith)
from-same a (suc m) c n e = (head-eq_of_cons-eq e, omega (arith, ap length e, length_from (suc a) m, length_from (suc c) n))

module _ (rows sizes table : List ℕ) (rs : List Rule) where
  -- the rows that hold the rules' cuts are those that popping requires
  pub cut-rows : (ds : List Dimension) → CutBy rows sizes table rs ds → Bounded rs ds → length ds ≤ length rows → length ds ≤ length sizes
      → ((i : ℕ) → i < length ds → get_or rows i 0 + get_or sizes i 0 < length table) → CutRows rows table sizes (length ds)
  unfolding cut_of
  cut-rows ds c b all_rows all_sizes inside = record {
    all-rows = all_rows;
    all-sizes = all_sizes;
    row = λ i h. record { inside = inside i h; rising = cuts-rise rows sizes table rs ds c b i h };
  }

  pub row_ends : (d : Dimension) (ds : List Dimension) → CutBy rows sizes table rs (d ∷ ds) → Bounded rs (d ∷ ds)
      → (cut_of rows table (length ds) 0 ≡ d.bounds.0) × (cut_of rows table (length ds) (get_or sizes (length ds) 0) ≡ d.bounds.1)
  row_ends d ds c b =
      let low = d.bounds.0 in
      let high = d.bounds.1 in
      let q : high - low ≡ suc (high - suc low) = omega (arith, b.0.0) in
      let same = from-same _ _ low (high - suc low) (head-eq_of_cons-eq (cuts-points rows sizes table rs (d ∷ ds) c b) ∙ ap (from low) q) in
      (same.0, omega (arith, same.0, same.1, b.0.0))

  -- the items of a dimension's runs
  sort-items : (d : Dimension) (ds : List Dimension) → CutBy rows sizes table rs (d ∷ ds) → Bounded rs (d ∷ ds) → (E : List ℕ)
      → items_of d.bounds (joined (map (interval_at (cut_of rows table (length ds))) E)) ≡ sort_items rows table sizes (length ds) E
  unfolding sort_items cut_of
  sort-items d ds c b E =
      let e = row_ends d ds c b in
      ap₂ (λ low high. items_of (low, high) (joined (map (interval_at (cut_of rows table (length ds))) E))) (sym e.0) (sym e.1)

  module _ (day_of : ℕ → Day) (c : CutBy rows sizes table rs dimensions) (b : Bounded rs dimensions) where
    set-rules : (v : ℕ) (S : Set ℕ) → Part (axes sizes 4) S → rules_of (page_of day_of (cut_of rows table) 4 (v, S)) ≡ group_rules rows table sizes day_of (v, S)
    unfolding runs_of rules_of laid_over page_items over_sorts group_rules
    set-rules v = by-sorts sizes (λ S. rules_of (page_of day_of (cut_of rows table) 4 (v, S)) ≡ group_rules rows table sizes day_of (v, S))
        (λ D W M Y p.
        let weeks = items_of week_dimension.bounds (joined (map (interval_at (cut_of rows table 2)) W)) in
        let weekdays = items_of weekday_dimension.bounds (joined (map (interval_at (cut_of rows table 3)) D)) in
        ap₂ (λ Ys Ms. map (λ r. over_sorts sorts (Ys ∷ Ms ∷ weeks ∷ weekdays ∷ []) r) (as_rules (day_of v)))
        (sort-items year_dimension [] c.1.1.1 b.1.1.1 Y) (sort-items month_dimension (year_dimension ∷ []) c.1.1 b.1.1 M)
        ∙ ap₂ (λ Ws Ds. map (λ r. over_sorts sorts (sort_items rows table sizes 0 Y ∷ sort_items rows table sizes 1 M ∷ Ws ∷ Ds ∷ []) r) (as_rules (day_of v)))
        (sort-items week_dimension (month_dimension ∷ year_dimension ∷ []) c.1 b.1 W) (sort-items weekday_dimension (week_dimension ∷ month_dimension ∷ year_dimension ∷ []) c b D))

    -- THE FOLDED RULES are those of the pages' items, page after page, where the definition's pages are the popped groups
    pub rules-paged : (cells classes : List ℕ) → pages rs ≡ map (page_of day_of (cut_of rows table) 4) (groups_from cells classes sizes 5 1 4)
        → folded rs ≡ flat_map (group_rules rows table sizes day_of) (groups_from cells classes sizes 5 1 4)
    unfolding folded groups_from
    rules-paged cells classes e =
        ap (flat_map rules_of) e
        ∙ flat_map-map rules_of (group_rules rows table sizes day_of) (page_of day_of (cut_of rows table) 4) (groups_from cells classes sizes 5 1 4)
        (All-map (λ g p. set-rules g.0 g.1 p) (groups_from cells classes sizes 5 1 4) (groups-part eqb eqb 0 (axes sizes 4) (classes_from classes 5 1) (grid cells sizes 4 0)))
