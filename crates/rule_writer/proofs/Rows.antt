-- Rows step by step: a row is its first pair and the row behind it; the rows from a sort on are its row and the rows from the next sort on; and
-- the same for spans.
use mathlib.Core.Path.{◌≡◌, refl, sym, ap, ap₂, ◌∙◌, subst}
use mathlib.Core.List.{List, [], ◌∷◌, ◌++◌, map, flat_map}
use Prim.Native.Nat.{ℕ, zero, suc, ◌+◌, ◌*◌, ◌-◌, ◌/◌, ◌≤◌, ◌<◌}
use native.Mathlib.Omega.{arith}
use lib.ListN.{length, take, drop, get_or, length-map, length-drop}
use lib.Seq.{drop-cons, take_all, length-take-le}
use Rattle.std.proofs.lemmas.List.{drop_all}
use Rattle.laws.specs.Lists.{from, All}
use Rattle.definition.specs.Rule.{Span}
use Rattle.definition.specs.Range.{Ends}
use Rattle.definition.specs.Sheet.{span}
use Rattle.codes.specs.Number.{span_at}
use Rattle.rule_writer.specs.Rows.{pairs_of, item_bits, row_bits, rows_bits, spans_at}
use Rattle.tables.specs.Items.{pairs, ends_at, row_place, row}

-- ## A row of pairs
ends_next : (ends : List ℕ) (place many : ℕ) → place + 2 * suc many ≤ length ends
    → ends_at ends place (suc many) ≡ (get_or ends place 0, get_or ends (place + 1) 0) ∷ ends_at ends (place + 2) many
unfolding ends_at pairs
ends_next ends place many h =
    let two : 2 * suc many ≡ suc (suc (2 * many)) = omega arith in
    let one : suc place ≡ place + 1 = omega arith in
    let more : suc (place + 1) ≡ place + 2 = omega arith in
    ap₂ (λ n l. pairs (take n l)) two
    (drop-cons ends place 0 (omega arith) ∙ ap (λ j. get_or ends place 0 ∷ drop j ends) one ∙ ap (get_or ends place 0 ∷◌)
    (drop-cons ends (place + 1) 0 (omega arith)))
    ∙ ap (λ j. (get_or ends place 0, get_or ends (place + 1) 0) ∷ pairs (take (2 * many) (drop j ends))) more

module _ (ends : List ℕ) (place many : ℕ) where
  ends-none : many ≡ 0 → ends_at ends place many ≡ []
  unfolding ends_at pairs
  ends-none e = rw e refl

  ends_more : (many ≡ 0 → ⊥) → place + 2 * many ≤ length ends
      → ends_at ends place many ≡ (get_or ends place 0, get_or ends (place + 1) 0) ∷ ends_at ends (place + 2) (many - 1)
  ends_more some h =
      let e : many ≡ suc (many - 1) = omega arith in
      ap (ends_at ends place) e ∙ ends_next ends place (many - 1) (omega arith)

pub ends-length : (many : ℕ) (ends : List ℕ) (place : ℕ) → place + 2 * many ≤ length ends → length (ends_at ends place many) ≡ many
unfolding ends_at pairs
ends-length zero ends place h = refl
ends-length (suc many) ends place h = ap length (ends_next ends place many h) ∙ ap suc (ends-length many ends (place + 2) (omega arith))

module _ (ends : List ℕ) (place many : ℕ) where
  pub row-none : (sort : ℕ) → many ≡ 0 → row_bits sort (ends_at ends place many) ≡ []
  unfolding row_bits flat_map
  row-none sort e = ap (row_bits sort) (ends-none ends place many e)

  module _ (some : many ≡ 0 → ⊥) (inside : place + 2 * many ≤ length ends) (a b : ℕ) (first : a ≡ get_or ends place 0)
      (second : b ≡ get_or ends (place + 1) 0) where
    ends-cons : ends_at ends place many ≡ (a, b) ∷ ends_at ends (place + 2) (many - 1)
    ends-cons = ends_more ends place many some inside ∙ ap (◌∷ ends_at ends (place + 2) (many - 1)) (λ i. (sym first i, sym second i))

-- the pairs of a row of ends from one on
module _ (row : List ℕ) where
  abbrev pub pairs_from : ℕ → List Ends
  pairs_from k = ends_at row (2 * k) (length row / 2 - k)

  pub pairs-all : pairs_of row ≡ pairs_from 0
  unfolding pairs_of
  pairs-all = let z : 0 ≡ 2 * 0 = omega arith in let n : length row / 2 ≡ length row / 2 - 0 = omega arith in ap₂ (ends_at row) z n

  pub pairs-none : (sort k : ℕ) → length row / 2 ≤ k → row_bits sort (pairs_from k) ≡ []
  pairs-none sort k l = row-none row (2 * k) (length row / 2 - k) sort (omega arith)

  module _ (k : ℕ) (l : k < length row / 2) (a b : ℕ) (first : a ≡ get_or row (2 * k) 0) (second : b ≡ get_or row (2 * k + 1) 0) where
    pairs-cons : pairs_from k ≡ (a, b) ∷ pairs_from (k + 1)
    pairs-cons =
        let p : 2 * k + 2 ≡ 2 * (k + 1) = omega arith in
        let n : length row / 2 - k - 1 ≡ length row / 2 - (k + 1) = omega arith in
        ends-cons row (2 * k) (length row / 2 - k) (λ z. omega arith) (omega arith) a b first second ∙ ap₂ (λ i m. (a, b) ∷ ends_at row i m) p n

    pub pairs-more : (sort : ℕ) → row_bits sort (pairs_from k) ≡ item_bits sort (a, b) ++ row_bits sort (pairs_from (k + 1))
    unfolding row_bits flat_map
    pairs-more sort = ap (row_bits sort) pairs-cons

    pub pairs-lawful : (P : Ends → Type 0) → All P (pairs_from k) → P (a, b) × All P (pairs_from (k + 1))
    pairs-lawful P h = subst (All P) pairs-cons h

-- a row that lies among others
pub pairs-within : (ends : List ℕ) (place many long : ℕ) → place + 2 * many ≤ length ends → long ≡ 2 * many → pairs_of (take long (drop place ends)) ≡ ends_at ends place many
unfolding pairs_of ends_at
pairs-within ends place many long h e =
    let row = take long (drop place ends) in
    let size : length row ≡ 2 * many = length-take-le long (drop place ends) (omega (arith, length-drop place ends)) ∙ e in
    let half : 2 * (length row / 2) ≡ 2 * many = omega (arith, size) in
    ap (λ n. pairs (take n row)) half ∙ ap pairs (take_all (2 * many) row (omega (arith, size)) ∙ ap (λ n. take n (drop place ends)) e)

-- ## The rows, sort by sort
module _ (ends counts : List ℕ) where
  pub rows_none : (sort : ℕ) → sort ≡ 4 → rows_bits ends counts sort ≡ []
  unfolding rows_bits flat_map from
  rows_none sort e = rw e refl

  pub row_at : (sort many place : ℕ) → many ≡ get_or counts sort 0 → place ≡ row_place counts sort → row ends counts sort ≡ ends_at ends place many
  unfolding row
  row_at sort many place e p = ap₂ (ends_at ends) (sym p) (sym e)

  pub rows_more : (sort many place : ℕ) → sort < 4 → many ≡ get_or counts sort 0 → place ≡ row_place counts sort
      → rows_bits ends counts sort ≡ row_bits sort (ends_at ends place many) ++ rows_bits ends counts (sort + 1)
  unfolding rows_bits flat_map from
  rows_more sort many place l e p =
      let left : 4 - sort ≡ suc (4 - (sort + 1)) = omega arith in
      let next : suc sort ≡ sort + 1 = omega arith in
      ap (λ n. flat_map (λ s. row_bits s (row ends counts s)) (from sort n)) left
      ∙ ap₂ (λ es t. row_bits sort es ++ flat_map (λ s. row_bits s (row ends counts s)) (from t (4 - (sort + 1)))) (row_at sort many place e p) next

-- rows lie behind each other
pub place-next : (counts : List ℕ) (sort : ℕ) → row_place counts (sort + 1) ≡ row_place counts sort + 2 * get_or counts sort 0
unfolding row_place
place-next counts sort = let next : sort + 1 ≡ suc sort = omega arith in ap (row_place counts) next

pub place-within : (counts : List ℕ) (sort more : ℕ) → row_place counts sort ≤ row_place counts (sort + more)
unfolding row_place
place-within counts sort zero = let e : sort + 0 ≡ sort = omega arith in omega (arith, ap (row_place counts) e)
place-within counts sort (suc more) =
    let e : sort + suc more ≡ suc (sort + more) = omega arith in
    omega (arith, ap (row_place counts) e, place-within counts sort more)

-- a row lies within the ends
pub row_inside : (ends counts : List ℕ) (sort : ℕ) → sort < 4 → row_place counts 4 ≤ length ends → row_place counts sort + 2 * get_or counts sort 0 ≤ length ends
row_inside ends counts sort l h =
    let e : sort + 1 + (4 - (sort + 1)) ≡ 4 = omega arith in
    omega (arith, place-next counts sort, place-within counts (sort + 1) (4 - (sort + 1)), ap (row_place counts) e)

pub row-length : (ends counts : List ℕ) (sort : ℕ) → sort < 4 → row_place counts 4 ≤ length ends → length (row ends counts sort) ≡ get_or counts sort 0
unfolding row
row-length ends counts sort l h = ends-length (get_or counts sort 0) ends (row_place counts sort) (row_inside ends counts sort l h)

-- ## Spans
module _ (spans : List ℕ) (k : ℕ) where
  -- those from one on
  abbrev pub spans_from : List Span
  spans_from = map span_at (drop k spans)

  pub spans-none : length spans ≤ k → flat_map span.write spans_from ≡ []
  unfolding flat_map
  spans-none l = ap (λ s. flat_map span.write (map span_at s)) (drop_all k spans l)

  module _ (l : k < length spans) where
    pub spans-cons : spans_from ≡ span_at (get_or spans k 0) ∷ map span_at (drop (k + 1) spans)
    spans-cons = let next : suc k ≡ k + 1 = omega arith in ap (map span_at) (drop-cons spans k 0 l ∙ ap (λ j. get_or spans k 0 ∷ drop j spans) next)

    pub spans-more : flat_map span.write spans_from ≡ span.write (span_at (get_or spans k 0)) ++ flat_map span.write (map span_at (drop (k + 1) spans))
    unfolding flat_map
    spans-more = ap (flat_map span.write) spans-cons

    pub spans-lawful : (P : Span → Type 0) → All P spans_from → P (span_at (get_or spans k 0)) × All P (map span_at (drop (k + 1) spans))
    spans-lawful P h = subst (All P) spans-cons h

-- so many from a place on
pub spans-length : (spans : List ℕ) (first many : ℕ) → first + many ≤ length spans → length (spans_at spans first many) ≡ many
unfolding spans_at
spans-length spans first many h =
    length-map (take many (drop first spans)) span_at ∙ length-take-le many (drop first spans) (omega (arith, length-drop first spans))
