-- WHICH BOXES A RULE COVERS: a law for each way out of the loops over ranges and over dimensions; a rule's ranges hold a value where some range of its row
-- does, and a box is covered where some combination of ranges covers its first point. Rests on the digits of boxes.
use mathlib.Core.Path.{◌≡◌, refl, sym, ap, ap₂, ◌∙◌}
use mathlib.Core.Bool.{Bool, true, false, ◌&&◌, not, true≢false}
use mathlib.Core.List.{List, [], ◌∷◌, map}
use Prim.Native.Nat.{ℕ, zero, suc, ◌+◌, ◌*◌, ◌≤◌, ◌<◌}
use native.Mathlib.Omega.{arith}
use lib.Dec.{eqb, ltb}
use lib.ListN.{get_or}
use borrow.Author.Count.{below_more}
use borrow.Author.Tests.{le-leb, lt-leb, ne_eqb}
use Rattle.laws.specs.Lists.{from, every, count}
use Rattle.laws.proofs.Flags.{not-true, and-true, and-false}
use Rattle.laws.proofs.Lists.{all-every, every_append, any_same, any-map}
use Rattle.laws.proofs.Numbers.{from-append, All-from, every-below, from-any, from-none}
use Rattle.grid.specs.Cut.{holds}
use Rattle.definition.specs.Rule.{Rule}
use Rattle.definition.specs.Point.{combinations}
use Rattle.tables.specs.Sizes.{range_places}
use Rattle.tables.specs.Ranges.{table_row, range_of, selector_of}
use Rattle.tables.specs.Rules.{RuleDays}
use Rattle.tables.specs.Cuts.{cut_of}
use Rattle.tables.specs.Lists.{Within, box_of, start_of}
use Rattle.tables.proofs.Ranges.{row_at, any-count}
use Rattle.plain_boxes.specs.Digits.{digit_of, digits}
use Rattle.plain_boxes.proofs.Digits.{digits-box}
use Rattle.plain_lists.specs.Covers.{range_from, in_ranges, RangesThere, holds_in, covers_in, covers_box, Coverable}

-- ## One range
pub range-begun : (start end value : ℕ) → start ≤ value → ltb value end ≡ holds value (start, end)
range-begun start end value h = rw (le-leb start value h)

pub range-ahead : (start end value : ℕ) → value < start → false ≡ holds value (start, end)
range-ahead start end value h = rw (lt-leb start value h)

-- ## The ranges from a place on
module _ (ranges : List ℕ) (first value : ℕ) where
  -- the first n of them do not hold the value
  abbrev pub Passed : ℕ → Type 0
  Passed n = (k : ℕ) → k < n → holds value (range_from ranges first k) ≡ false

  module _ (k : ℕ) (held : Bool) (told : held ≡ holds value (get_or ranges (first + 2 * k) 0, get_or ranges (first + 2 * k + 1) 0)) where
    pub in-yes : (number : ℕ) → k < number → held ≡ true → true ≡ in_ranges ranges first number value
    unfolding in_ranges range_from
    in-yes number l e = sym (from-any (λ j. holds value (range_from ranges first j)) 0 number k (omega arith) (omega arith) (sym told ∙ e))

    pub in-next : Passed k → held ≡ false → Passed (k + 1)
    unfolding range_from
    in-next h e = below_more (λ j. holds value (range_from ranges first j) ≡ false) k h (sym told ∙ e)

  pub in-no : (number n : ℕ) → number ≤ n → Passed n → false ≡ in_ranges ranges first number value
  unfolding in_ranges
  in-no number n l h = sym (from-none (λ j. holds value (range_from ranges first j)) 0 number (λ j _ m. h j (omega arith)))

-- a rule's ranges in a dimension
pub held-told : (counts ranges : List ℕ) (rule i number value : ℕ) (held : Bool) → number ≡ get_or counts (rule * 4 + i) 0
    → held ≡ in_ranges ranges (rule * 256 + i * range_places) number value → held ≡ holds_in counts ranges rule i value
unfolding holds_in
held-told counts ranges rule i number value held c told = rw (← c) told

-- ## The dimensions
module _ (rows sizes cuts counts ranges : List ℕ) (rule box : ℕ) where
  -- in the first n of them the rule has a range that holds the box's value
  abbrev pub Held : ℕ → Type 0
  Held n = (i : ℕ) → i < n → covers_in rows sizes cuts counts ranges rule box i ≡ true

  module _ (i row digit : ℕ) (held : Bool) (a : row ≡ get_or rows i 0) (b : digit ≡ digit_of sizes box i)
      (told : held ≡ holds_in counts ranges rule i (get_or cuts (row + digit) 0)) where
    covered-told : held ≡ covers_in rows sizes cuts counts ranges rule box i
    unfolding covers_in cut_of
    covered-told = rw (← a, ← b) told

    pub covers-next : Held i → held ≡ true → Held (i + 1)
    covers-next h e = below_more (λ j. covers_in rows sizes cuts counts ranges rule box j ≡ true) i h (sym covered-told ∙ e)

    pub covers-no : i < 4 → held ≡ false → false ≡ covers_box rows sizes cuts counts ranges rule box
    unfolding covers_box
    covers-no l e =
        sym (not-true (every (covers_in rows sizes cuts counts ranges rule box) (from 0 4)) (λ t.
        true≢false (sym (every-below (covers_in rows sizes cuts counts ranges rule box) 4 t i l) ∙ sym covered-told ∙ e)))

  pub covers-yes : (n : ℕ) → 4 ≤ n → Held n → true ≡ covers_box rows sizes cuts counts ranges rule box
  unfolding covers_box
  covers-yes n l h =
      sym (all-every (covers_in rows sizes cuts counts ranges rule box) (from 0 4)
      (All-from (λ i. covers_in rows sizes cuts counts ranges rule box i ≡ true) 0 4 (λ i _ m. h i (omega arith))))

-- ## A rule's row
pub ranges-there : (counts ranges : List ℕ) (n : ℕ) (rs : List Rule) → RuleDays counts ranges n rs → (k : ℕ) → k < n → RangesThere counts ranges k
ranges-there counts ranges n rs days k here = record {
  all-counts = omega (arith, days.all-counts);
  all-ranges = omega (arith, days.all-ranges);
  few = λ i l. omega (arith, row_at counts k 4 i l, (days.each k here).few i l);
}

-- THE VALUES THAT ITS RANGES HOLD in a dimension
pub held-row : (counts ranges : List ℕ) (rule : ℕ) → RangesThere counts ranges rule → (i value : ℕ) → i < 4
    → holds_in counts ranges rule i value
    ≡ not (eqb (count (holds value) (map (range_of (table_row ranges rule 256) i) (from 0 (get_or (table_row counts rule 4) i 0)))) 0)
unfolding holds_in in_ranges range_from range_of
held-row counts ranges rule there i value l =
    any_same (λ k. holds value (range_from ranges (rule * 256 + i * range_places) k)) (λ k. holds value (range_of (table_row ranges rule 256) i k)) (from 0 number)
    (All-from _ 0 number (λ k _ m. ap (holds value) (one k (omega arith))))
    ∙ sym (any-map (holds value) (range_of (table_row ranges rule 256) i) (from 0 number)) ∙ any-count (holds value) (map (range_of (table_row ranges rule 256) i) (from 0 number))
    ∙ ap (λ n. not (eqb (count (holds value) (map (range_of (table_row ranges rule 256) i) (from 0 n))) 0)) (sym (row_at counts rule 4 i l))
  where
    number : ℕ
    number = get_or counts (rule * 4 + i) 0

    at : (k j : ℕ) → i * range_places + k ≡ j → k < range_places → (p : ℕ) → rule * 256 + j ≡ p → get_or ranges p 0 ≡ get_or (table_row ranges rule 256) j 0
    at k j e m p q = ap (λ n. get_or ranges n 0) (sym q) ∙ sym (row_at ranges rule 256 j (omega (arith, l)))

    one : (k : ℕ) → k < number → range_from ranges (rule * 256 + i * range_places) k ≡ range_of (table_row ranges rule 256) i k
    one k m =
        let few = there.few i l in
        ap₂ (λ a b. (a, b)) (at (2 * k) (i * range_places + 2 * k) refl (omega (arith, few, m)) (rule * 256 + i * range_places + 2 * k) (omega arith))
        (at (2 * k + 1) (i * range_places + 2 * k + 1) (omega arith) (omega (arith, few, m)) (rule * 256 + i * range_places + 2 * k + 1) (omega arith))

-- ## Combinations
-- a product is 0 where a factor is
pub some-both : (a b : ℕ) → not (eqb b 0) && not (eqb a 0) ≡ not (eqb (a * b) 0)
some-both zero b = and-false (not (eqb b 0)) ∙ ap (λ n. not (eqb n 0)) (let z : 0 ≡ 0 * b = omega arith in z)
some-both (suc a) zero = ap (λ n. not (eqb n 0)) (let z : 0 ≡ suc a * 0 = omega arith in z)
some-both (suc a) (suc b) = rw (ne_eqb (suc b) 0 (omega arith), ne_eqb (suc a) 0 (omega arith), ne_eqb (suc a * suc b) 0 (omega arith))

module _ (rows sizes cuts counts ranges : List ℕ) (rule : ℕ) (c : Coverable rows sizes cuts counts ranges rule) where
  some-combination : (box l : ℕ) → l ≤ 4
      → every (covers_in rows sizes cuts counts ranges rule box) (from 0 l)
      ≡ not (eqb (combinations (selector_of (table_row counts rule 4) (table_row ranges rule 256) l) (start_of rows cuts l (digits sizes l box))) 0)
  unfolding every from combinations selector_of start_of digits covers_in
  some-combination box zero h = refl
  some-combination box (suc i) h =
      ap (every t) (let z : i + 1 ≡ suc i = omega arith in ap (from 0) (sym z) ∙ sym (from-append 0 i 1 i (omega arith))) ∙ every_append t (from 0 i) (i ∷ [])
      ∙ ap₂ ◌&&◌ (some-combination box i (omega arith)) (and-true (t i) ∙ here)
      ∙ some-both (count (holds value) (map (range_of (table_row ranges rule 256) i) (from 0 (get_or (table_row counts rule 4) i 0))))
      (combinations (selector_of (table_row counts rule 4) (table_row ranges rule 256) i) (start_of rows cuts i (digits sizes i box)))
    where
      t : ℕ → Bool
      t = covers_in rows sizes cuts counts ranges rule box

      value : ℕ
      value = cut_of rows cuts i (digit_of sizes box i)

      here : t i ≡ not (eqb (count (holds value) (map (range_of (table_row ranges rule 256) i) (from 0 (get_or (table_row counts rule 4) i 0)))) 0)
      here = held-row counts ranges rule c.ranges-there i value (omega arith)

  -- A COVERED BOX is one whose first point some combination of ranges covers
  pub covers-box : (p : List ℕ) → Within sizes 4 p
      → covers_box rows sizes cuts counts ranges rule (box_of sizes 4 0 p)
      ≡ not (eqb (combinations (selector_of (table_row counts rule 4) (table_row ranges rule 256) 4) (start_of rows cuts 4 p)) 0)
  unfolding covers_box
  covers-box p w =
      some-combination (box_of sizes 4 0 p) 4 (omega arith)
      ∙ ap (λ q. not (eqb (combinations (selector_of (table_row counts rule 4) (table_row ranges rule 256) 4) (start_of rows cuts 4 q)) 0)) (digits-box sizes 4 0 p w)
