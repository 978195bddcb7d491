-- The steps of `cut_all`: the rows are placed, both bounds are cut, then the ranges of one rule after the other. Rests on the laws of cuts as
-- rules come in, and on the law that a rule which a sheet carries has few ranges.
use mathlib.Core.Path.{◌≡◌, refl, sym, ap, ◌∙◌, subst}
use mathlib.Core.Bool.{Bool, true, false}
use mathlib.Core.List.{List, [], ◌∷◌}
use Prim.Native.Nat.{ℕ, suc, ◌+◌, ◌*◌, ◌≤◌, ◌<◌}
use native.Mathlib.Omega.{arith}
use native.Mathlib.Nat.{mul-le-mul_right}
use lib.Dec.{eqb}
use lib.ListN.{length, get_or, take}
use lib.Seq.{take_all}
use borrow.Author.Tests.{eqb-true, eqb-false}
use Rattle.laws.proofs.Lists.{All-map, All-take}
use Rattle.grid.specs.Cut.{cuts}
use Rattle.grid.proofs.Count.{cuts-count}
use Rattle.definition.specs.Rule.{Rule}
use Rattle.definition.specs.Sheet.{form2, sheet_limits}
use Rattle.definition.specs.Point.{Dimension, dimensions}
use Rattle.definition.specs.Box.{all_ranges, box_count}
use Rattle.definition.proofs.Lawful.{Lawful}
use Rattle.paving.specs.Grid.{size_of}
use Rattle.tables.specs.Rules.{rule_at, DaysHeld, RuleDays}
use Rattle.tables.proofs.Days.{fits-lawful, lent-counts, lent-ranges, days-lent, four-lent, ranges-lent}
use Rattle.tables.specs.Sizes.{row_places}
use Rattle.paving_cuts.specs.Cuts.{Rowed, rowed, cut_rows, start_row, Space}
use Rattle.paving_cuts.specs.Rules.{Roomy, start_rows}
use Rattle.tables.specs.Cuts.{CutBy, Cut}
use Rattle.paving_cuts.proofs.Rows.{row-length, cut-start}
use Rattle.paving_cuts.proofs.ByRules.{boxes-counted}
use Rattle.paving_points.proofs.Boxes.{lawful-bounded}
use Rattle.paving_points.proofs.Cuts.{rule-space, rule-cut}
use Rattle.paving_points.proofs.Few.{items-few, ranges-few, rules-roomy}
use Rattle.cutting.specs.Cutting.{Placed, Rows}

-- ## The start
-- both bounds of the four dimensions, as they are written
pub bounds-cut : (rows : List ℕ) (places : ℕ) → Placed places rows → 2 ≤ places → (cuts sizes : List ℕ) → length sizes ≡ 4 → 4 * places ≤ length cuts
    → (t₃ t₂ t₁ t₀ : Rowed) → t₃ ≡ start_row rows 3 0 7 (rowed cuts sizes) → t₂ ≡ start_row rows 2 1 54 t₃ → t₁ ≡ start_row rows 1 1 13 t₂
    → t₀ ≡ start_row rows 0 1900 10000 t₁ → CutBy rows t₀.sizes t₀.cuts [] dimensions
unfolding start_rows
bounds-cut rows places placed two cuts sizes four room t₃ t₂ t₁ t₀ e₃ e₂ e₁ e₀ =
    subst (λ t. CutBy rows t.sizes t.cuts [] dimensions)
    (sym (e₀ ∙ ap (start_row rows 0 1900 10000) (e₁ ∙ ap (start_row rows 1 1 13) (e₂ ∙ ap (start_row rows 2 1 54) e₃))))
    (cut-start rows places 4 placed two dimensions (rowed cuts sizes) (omega arith) (omega arith) room)

-- rows that were there are there later
pub rows-kept : (places : ℕ) (rows sizes sizes' : List ℕ) (cuts cuts' : ℕ) → length sizes' ≡ length sizes → cuts' ≡ cuts → Rows places rows sizes cuts
    → Rows places rows sizes' cuts'
rows-kept places rows sizes sizes' cuts cuts' e f there = record {
  four-rows = there.four-rows;
  four-sizes = e ∙ there.four-sizes;
  all-cuts = omega (arith, there.all-cuts);
  placed = there.placed;
}

-- ## How wide a row is
module _ (rows sizes table : List ℕ) (room : ℕ) (rs : List Rule) where
  -- each dimension has an interval, and its row ends before the next one
  row-wide : (ds : List Dimension) → CutBy rows sizes table rs ds → Roomy room rs ds → (i : ℕ) → i < length ds → (1 ≤ get_or sizes i 0) × (get_or sizes i 0 + 1 ≤ room)
  row-wide [] c w i h = absurd (omega arith)
  row-wide (d ∷ ds) c w i h = go (eqb i (length ds)) refl (row-wide ds c.1 w.1 i)
    where
      go : (b : Bool) → eqb i (length ds) ≡ b → (i < length ds → (1 ≤ get_or sizes i 0) × (get_or sizes i 0 + 1 ≤ room)) → (1 ≤ get_or sizes i 0) × (get_or sizes i 0 + 1 ≤ room)
      go true e ih =
          let many = sym (row-length rows sizes table (length ds)) ∙ ap length c.0 in
          let count = cuts-count d.bounds (all_ranges rs d) in
          rw (eqb-true i (length ds) e) (omega (arith, many, count.0), omega (arith, many, count.1, w.0))
      go false e ih = ih (omega (arith, eqb-false i (length ds) e))

-- ## The rules
module _ (counts ranges : List ℕ) (n : ℕ) (rs : List Rule) (days : RuleDays counts ranges n rs) where
  -- a rule that fits a sheet has few ranges, so all their cuts have room
  roomy : Roomy (row_places n) rs dimensions
  roomy =
      rules-roomy (row_places n) 32 rs dimensions
      (All-map (λ r f. All-map (λ d h. ranges-few d.bounds (d.items r) 16 (omega arith) h) dimensions (items-few form2 sheet_limits r f)) rs days.fits) (omega (arith, days.many))

  -- after the last rule all are cut at
  pub all-cut : (rows sizes table : List ℕ) (k : ℕ) → n ≤ k → CutBy rows sizes table (take k rs) dimensions → CutBy rows sizes table rs dimensions
  all-cut rows sizes table k m c = subst (λ qs. CutBy rows sizes table qs dimensions) (take_all k rs (omega (arith, days.many))) c

  module _ (rows sizes table : List ℕ) (there : Rows (row_places n) rows sizes (length table)) where
    -- rule k, after the rules before it
    module _ (k : ℕ) (here : k < n) (before : CutBy rows sizes table (take k rs) dimensions) where
      abbrev counts-k : List ℕ
      counts-k = lent-counts counts ranges n rs days k here

      abbrev ranges-k : List ℕ
      ranges-k = lent-ranges counts ranges n rs days k here

      held : DaysHeld counts-k ranges-k (rule_at rs k)
      held = days-lent counts ranges n rs days k here

      pub next-space : Space table rows sizes counts-k ranges-k 4
      next-space =
          rule-space rows counts-k ranges-k (row_places n) rs k (omega (arith, days.many)) dimensions held.selected roomy there.placed sizes table before
          (lawful-bounded (take k rs) (All-take Lawful k rs (fits-lawful rs days.fits))) there.all-cuts (omega (arith, days.few-rules))
          (omega (arith, there.four-rows)) (omega (arith, there.four-sizes))
          (four-lent counts ranges n rs days k here) (ranges-lent counts ranges n rs days k here) held.few

      pub next-cut : (t : Rowed) → t ≡ cut_rows rows counts-k ranges-k 4 (rowed table sizes) → CutBy rows t.sizes t.cuts (take (k + 1) rs) dimensions
      next-cut t e =
          let z : suc k ≡ k + 1 = omega arith in
          subst (λ j. CutBy rows t.sizes t.cuts (take j rs) dimensions) z
          (subst (λ t. CutBy rows t.sizes t.cuts (take (suc k) rs) dimensions) (sym e)
          (rule-cut rows counts-k ranges-k (row_places n) rs k (omega (arith, days.many)) dimensions held.selected roomy there.placed (rowed table sizes) before
          (omega (arith, there.four-sizes)) there.all-cuts))

    -- THE ROWS OF ALL RULES, and the boxes between their cuts
    pub cut-there : (boxes : ℕ) → boxes ≡ size_of sizes 4 → CutBy rows sizes table rs dimensions → (boxes ≡ box_count dimensions rs) × Cut rows sizes table rs
    cut-there boxes e c =
        let wide = row-wide rows sizes table (row_places n) rs dimensions c roomy in (
          e ∙ boxes-counted rows sizes table rs dimensions c,
          record {
            four = there.four-sizes;
            all-rows = omega (arith, there.four-rows);
            inside = λ i l. omega (arith, wide i l, there.placed i l, there.all-cuts, mul-le-mul_right (row_places n) l);
            filled = λ i l. (wide i l).0;
            cut_by = c;
          },
        )
