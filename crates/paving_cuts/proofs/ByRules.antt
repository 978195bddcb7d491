-- THE CUTS AS RULES COME IN: rows that hold the cuts of some rules hold, cut at a rule more, the cuts of all of them; and the number of
-- boxes is the definition's. Rests on the rows' laws.
use mathlib.Core.Path.{◌≡◌, refl, sym, ap, ap₂, ◌∙◌}
use mathlib.Core.Bool.{Bool, true, false, cond}
use mathlib.Core.List.{List, [], ◌∷◌, ◌++◌, map}
use Prim.Native.Nat.{ℕ, suc, ◌+◌, ◌-◌, ◌*◌, ◌≤◌, ◌<◌}
use native.Mathlib.Omega.{arith}
use native.Mathlib.Nat.{mul-le-mul_right}
use lib.Dec.{eqb}
use lib.ListN.{length, get_or, length-append, length-map}
use borrow.Author.Tests.{eqb-true, eqb-false, lt-ltb}
use Rattle.laws.specs.Lists.{from}
use Rattle.laws.proofs.Numbers.{length_from}
use Rattle.laws.proofs.Spread.{flat_map-last}
use Rattle.grid.specs.Cut.{Range, cuts}
use Rattle.grid.proofs.Count.{cuts-count}
use Rattle.definition.specs.Rule.{Rule}
use Rattle.definition.specs.Range.{ranges}
use Rattle.definition.specs.Point.{Dimension, selector}
use Rattle.definition.specs.Box.{all_ranges, box_count}
use Rattle.paving.specs.Grid.{size_of}
use Rattle.tables.specs.Sizes.{range_places}
use Rattle.tables.specs.Ranges.{range_of, selector_of}
use Rattle.paving_cuts.specs.Cuts.{ranges_from, cuts_onto, Rowed, cut_rows, Space}
use Rattle.tables.specs.Cuts.{RowsRise, dimension_cuts, CutBy}
use Rattle.paving_cuts.specs.Rules.{Roomy}
use Rattle.paving_cuts.proofs.Rows.{cuts-more, row-length, next, rows_cut}

-- ## The loaded ranges of a rule
abbrev head : List (List Range) → List Range
head [] = []
head (R ∷ Rs) = R

abbrev tail : List (List Range) → List (List Range)
tail [] = []
tail (R ∷ Rs) = Rs

module _ (counts loaded : List ℕ) (r : Rule) (d : Dimension) (ds : List Dimension) (e : selector_of counts loaded (suc (length ds)) ≡ selector (d ∷ ds) r) where
  first-ranges : ranges_from loaded (length ds) 0 (get_or counts (length ds) 0) ≡ ranges d.bounds (d.items r)
  unfolding selector_of selector ranges_from
  first-ranges =
      let z : get_or counts (length ds) 0 - 0 ≡ get_or counts (length ds) 0 = omega arith in
      ap (λ n. map (range_of loaded (length ds)) (from 0 n)) z ∙ ap head e

  later-ranges : selector_of counts loaded (length ds) ≡ selector ds r
  unfolding selector_of selector
  later-ranges = ap tail e

  first_count : length (ranges d.bounds (d.items r)) ≡ get_or counts (length ds) 0
  unfolding selector_of selector
  first_count =
      sym (ap (λ Rs. length (head Rs)) e) ∙ length-map (from 0 (get_or counts (length ds) 0)) (range_of loaded (length ds)) ∙ length_from 0 (get_or counts (length ds) 0)

module _ (rows counts loaded : List ℕ) (room : ℕ) (rs : List Rule) (r : Rule) where
  -- each row has room for the rule's cuts
  row_room : (sizes table : List ℕ) (ds : List Dimension) → selector_of counts loaded (length ds) ≡ selector ds r → CutBy rows sizes table rs ds
      → Roomy room (rs ++ (r ∷ [])) ds → (k : ℕ) → k < length ds → get_or sizes k 0 + 1 + 2 * get_or counts k 0 ≤ room
  row_room sizes table [] e c w k h = absurd (omega arith)
  row_room sizes table (d ∷ ds) e c w k h = go (eqb k (length ds)) refl (row_room sizes table ds (later-ranges counts loaded r d ds e) c.1 w.1 k)
    where
      long : length (all_ranges (rs ++ (r ∷ [])) d) ≡ length (all_ranges rs d) + length (ranges d.bounds (d.items r))
      long = ap length (flat_map-last (λ q. ranges d.bounds (d.items q)) rs r) ∙ length-append (all_ranges rs d) (ranges d.bounds (d.items r))

      go : (b : Bool) → eqb k (length ds) ≡ b → (k < length ds → get_or sizes k 0 + 1 + 2 * get_or counts k 0 ≤ room) → get_or sizes k 0 + 1 + 2 * get_or counts k 0 ≤ room
      go true q ih =
          rw (eqb-true k (length ds) q) (omega (
            arith,
            sym (row-length rows sizes table (length ds)) ∙ ap length c.0,
            (cuts-count d.bounds (all_ranges rs d)).1,
            long,
            first_count counts loaded r d ds e,
            w.0,
          ))
      go false q ih = ih (omega (arith, eqb-false k (length ds) q))

  module _ (ds : List Dimension) (e : selector_of counts loaded (length ds) ≡ selector ds r) (w : Roomy room (rs ++ (r ∷ [])) ds)
      (placed : (i : ℕ) → i < length ds → get_or rows i 0 ≡ i * room) where
    -- so the rule can be cut at
    pub cut-space : (sizes table : List ℕ) → CutBy rows sizes table rs ds → RowsRise rows sizes table (length ds) → length ds * room ≤ length table → room ≤ 65536
        → length ds ≤ length rows → length ds ≤ length sizes → length ds ≤ length counts → length ds * range_places ≤ length loaded
        → ((i : ℕ) → i < length ds → get_or counts i 0 * 2 ≤ range_places) → Space table rows sizes counts loaded (length ds)
    cut-space sizes table c rise l small a b n m few = record {
      all-rows = a;
      all-sizes = b;
      all-counts = n;
      all-ranges = m;
      count = few;
      place = λ i h. omega (arith, placed i h, row_room sizes table ds e c w i h, mul-le-mul_right room h);
      fits = λ i h. omega (arith, row_room sizes table ds e c w i h);
      apart = λ i j l h. omega (arith, placed i (omega arith), placed j h, row_room sizes table ds e c w i (omega arith), mul-le-mul_right room l);
      rising = rise;
    }

    -- A RULE MORE: the rows hold the cuts of all rules
    pub cut-next : (t : Rowed) → CutBy rows t.sizes t.cuts rs ds → length ds ≤ length t.sizes → length ds * room ≤ length t.cuts
        → CutBy rows (cut_rows rows counts loaded (length ds) t).sizes (cut_rows rows counts loaded (length ds) t).cuts (rs ++ (r ∷ [])) ds
    cut-next t c a b = go ds (omega arith) e c
      where
        t₁ : Rowed
        t₁ = cut_rows rows counts loaded (length ds) t

        cut : (k : ℕ) → k < length ds → dimension_cuts rows t₁.sizes t₁.cuts k ≡ cuts_onto (ranges_from loaded k 0 (get_or counts k 0)) (dimension_cuts rows t.sizes t.cuts k)
        cut k h =
            let more = row_room t.sizes t.cuts ds e c w in
            rows_cut rows room (length ds) placed counts loaded (length ds) (omega arith) t a b (λ j l. omega (arith, more j l)) more k h
            ∙ ap (λ v. cond v (next rows room (length ds) placed counts loaded t k) (dimension_cuts rows t.sizes t.cuts k)) (lt-ltb k (length ds) h)

        go : (es : List Dimension) → length es ≤ length ds → selector_of counts loaded (length es) ≡ selector es r → CutBy rows t.sizes t.cuts rs es
            → CutBy rows t₁.sizes t₁.cuts (rs ++ (r ∷ [])) es
        go [] l q k = tt
        go (d ∷ es) l q k = (
          cut (length es) l ∙ ap₂ cuts_onto (first-ranges counts loaded r d es q) k.0 ∙ cuts-more d.bounds (all_ranges rs d) (ranges d.bounds (d.items r))
              ∙ ap (cuts d.bounds) (sym (flat_map-last (λ o. ranges d.bounds (d.items o)) rs r)),
          go es (omega arith) (later-ranges counts loaded r d es q) k.1,
        )

-- THE NUMBER OF BOXES is the definition's
pub boxes-counted : (rows sizes table : List ℕ) (rs : List Rule) (ds : List Dimension) → CutBy rows sizes table rs ds → size_of sizes (length ds) ≡ box_count ds rs
unfolding size_of box_count
boxes-counted rows sizes table rs [] c = refl
boxes-counted rows sizes table rs (d ∷ ds) c =
    let n : get_or sizes (length ds) 0 ≡ length (cuts d.bounds (all_ranges rs d)) - 1 = omega (arith, row-length rows sizes table (length ds), ap length c.0) in
    ap₂ ◌*◌ n (boxes-counted rows sizes table rs ds c.1)
