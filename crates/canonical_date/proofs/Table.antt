-- The rows of a rule's ranges, read back from the table, are the definition's ranges of the rule (`selector`).
use mathlib.Core.Path.{◌≡◌, refl, ap, ap₂, ◌∙◌}
use mathlib.Core.List.{List, [], ◌∷◌, map}
use mathlib.Core.Bool.{Bool, true, false}
use Prim.Native.Nat.{ℕ, zero, suc, ◌+◌, ◌*◌, ◌≤◌, ◌<◌}
use native.Mathlib.Omega.{arith}
use lib.Dec.{eqb}
use lib.ListN.{length, get_or, set, length-set}
use lib.Seq.{sets, length-sets, get_or-set_same, get_or-set_other}
use borrow.Author.Tests.{eqb-true, eqb-false}
use Rattle.laws.specs.Lists.{from, All}
use Rattle.grid.specs.Cut.{Range}
use Rattle.definition.specs.Rule.{Rule}
use Rattle.definition.specs.Point.{dimensions, selector}
use Rattle.tables.specs.Ranges.{range_of, selector_of}
use Rattle.canonical_date.specs.Row.{flat}
use Rattle.canonical_date.specs.Rule.{days_rows, lay_rows, count_rows}
use Rattle.canonical_date.proofs.Flat.{flat-length}

-- ## Numbers laid into a list
pub sets-before : (l : List ℕ) (p : ℕ) (vs : List ℕ) (k : ℕ) → k < p → get_or (sets l p vs) k 0 ≡ get_or l k 0
sets-before l p [] k h = refl
sets-before l p (v ∷ vs) k h = sets-before (set l p v) (suc p) vs k (omega arith) ∙ get_or-set_other l p k v 0 (λ z. omega arith)

pub sets-inside : (l : List ℕ) (p : ℕ) (vs : List ℕ) (k : ℕ) → p + length vs ≤ length l → k < length vs → get_or (sets l p vs) (p + k) 0 ≡ get_or vs k 0
sets-inside l p [] k h i = absurd (omega arith)
sets-inside l p (v ∷ vs) zero h i =
    let z : p + 0 ≡ p = omega arith in
    ap (λ j. get_or (sets (set l p v) (suc p) vs) j 0) z ∙ sets-before (set l p v) (suc p) vs p (omega arith) ∙ get_or-set_same l p v 0 (omega arith)
sets-inside l p (v ∷ vs) (suc k) h i =
    let z : p + suc k ≡ suc p + k = omega arith in
    ap (λ j. get_or (sets (set l p v) (suc p) vs) j 0) z ∙ sets-inside (set l p v) (suc p) vs k (omega (arith, length-set l p v)) (omega arith)

-- ## Ranges from numbers
flat_start : (R : List Range) (k : ℕ) → k < length R → get_or (flat R) (2 * k) 0 ≡ (get_or R k (0, 0)).0
unfolding flat
flat_start [] k h = absurd (omega arith)
flat_start (r ∷ R) zero h = refl
flat_start (r ∷ R) (suc k) h = let z : 2 * suc k ≡ suc (suc (2 * k)) = omega arith in ap (λ j. get_or (flat (r ∷ R)) j 0) z ∙ flat_start R k (omega arith)

flat-end : (R : List Range) (k : ℕ) → k < length R → get_or (flat R) (2 * k + 1) 0 ≡ (get_or R k (0, 0)).1
unfolding flat
flat-end [] k h = absurd (omega arith)
flat-end (r ∷ R) zero h = refl
flat-end (r ∷ R) (suc k) h = let z : 2 * suc k + 1 ≡ suc (suc (2 * k + 1)) = omega arith in ap (λ j. get_or (flat (r ∷ R)) j 0) z ∙ flat-end R k (omega arith)

-- a list, by what stands at each place
pub map-from : {A : Type 0} (f : ℕ → A) (d : A) (xs : List A) (s : ℕ) → ((k : ℕ) → k < length xs → f (s + k) ≡ get_or xs k d) → map f (from s (length xs)) ≡ xs
unfolding from
map-from f d [] s h = refl
map-from f d (x ∷ xs) s h =
    let z : s ≡ s + 0 = omega arith in
    ap₂ ◌∷◌ (ap f z ∙ h 0 (omega arith))
    (map-from f d xs (suc s) (λ k i. let y : suc s + k ≡ s + suc k = omega arith in ap f y ∙ h (suc k) (omega arith)))

-- ## Rows in the table
lay-before : (i : ℕ) (Rs : List (List Range)) (l : List ℕ) (k : ℕ) → k < i * 64 → get_or (lay_rows i Rs l) k 0 ≡ get_or l k 0
unfolding lay_rows
lay-before i [] l k h = refl
lay-before i (R ∷ Rs) l k h = lay-before (i + 1) Rs (sets l (i * 64) (flat R)) k (omega arith) ∙ sets-before l (i * 64) (flat R) k h

count-before : (i : ℕ) (Rs : List (List Range)) (c : List ℕ) (k : ℕ) → k < i → get_or (count_rows i Rs c) k 0 ≡ get_or c k 0
unfolding count_rows
count-before i [] c k h = refl
count-before i (R ∷ Rs) c k h = count-before (i + 1) Rs (set c i (length R)) k (omega arith) ∙ get_or-set_other c i k (length R) 0 (λ z. omega arith)

-- the first row, whatever rows follow it
module _ (i : ℕ) (R : List Range) (Rs : List (List Range)) where
  row_count : (c : List ℕ) → i < length c → get_or (count_rows i (R ∷ Rs) c) i 0 ≡ length R
  unfolding count_rows
  row_count c h = count-before (i + 1) Rs (set c i (length R)) i (omega arith) ∙ get_or-set_same c i (length R) 0 h

  row-place : (l : List ℕ) → i * 64 + 64 ≤ length l → length R ≤ 32 → (k : ℕ) → k < 2 * length R → get_or (lay_rows i (R ∷ Rs) l) (i * 64 + k) 0 ≡ get_or (flat R) k 0
  unfolding lay_rows
  row-place l h few k m =
      lay-before (i + 1) Rs (sets l (i * 64) (flat R)) (i * 64 + k) (omega arith)
      ∙ sets-inside l (i * 64) (flat R) k (omega (arith, flat-length R)) (omega (arith, flat-length R))

  row-table : (l : List ℕ) → i * 64 + 64 ≤ length l → length R ≤ 32 → map (range_of (lay_rows i (R ∷ Rs) l) i) (from 0 (length R)) ≡ R
  unfolding range_of
  row-table l h few = map-from (range_of (lay_rows i (R ∷ Rs) l) i) (0, 0) R 0 (λ k m.
      let z : 0 + k ≡ k = omega arith in
      let y : i * 64 + 2 * k + 1 ≡ i * 64 + (2 * k + 1) = omega arith in
      ap (range_of (lay_rows i (R ∷ Rs) l) i) z
      ∙ (λ j. ((row-place l h few (2 * k) (omega arith) ∙ flat_start R k m) j, (ap (λ o. get_or (lay_rows i (R ∷ Rs) l) o 0) y ∙ row-place l h few (2 * k + 1) (omega arith) ∙ flat-end R k m) j)))

  row-whole : (l c : List ℕ) → i * 64 + 64 ≤ length l → i < length c → length R ≤ 32
      → map (range_of (lay_rows i (R ∷ Rs) l) i) (from 0 (get_or (count_rows i (R ∷ Rs) c) i 0)) ≡ R
  row-whole l c h k few = ap (λ n. map (range_of (lay_rows i (R ∷ Rs) l) i) (from 0 n)) (row_count c k) ∙ row-table l h few

-- four rows
four-rows : (A B C D : List Range) (l c : List ℕ) → 256 ≤ length l → 4 ≤ length c → length A ≤ 32 → length B ≤ 32 → length C ≤ 32 → length D ≤ 32
    → selector_of (count_rows 0 (A ∷ B ∷ C ∷ D ∷ []) c) (lay_rows 0 (A ∷ B ∷ C ∷ D ∷ []) l) 4 ≡ D ∷ C ∷ B ∷ A ∷ []
unfolding selector_of lay_rows count_rows
four-rows A B C D l c h k few-a few-b few-c few-d =
    let l1 = sets l 0 (flat A) in
    let l2 = sets l1 64 (flat B) in
    let l3 = sets l2 128 (flat C) in
    let c1 = set c 0 (length A) in
    let c2 = set c1 1 (length B) in
    let c3 = set c2 2 (length C) in
    let e1 = length-sets l 0 (flat A) in
    let e2 = length-sets l1 64 (flat B) in
    let e3 = length-sets l2 128 (flat C) in
    let f1 = length-set c 0 (length A) in
    let f2 = length-set c1 1 (length B) in
    let f3 = length-set c2 2 (length C) in
    let a = row-whole 0 A (B ∷ C ∷ D ∷ []) l c (omega arith) (omega arith) few-a in
    let b = row-whole 1 B (C ∷ D ∷ []) l1 c1 (omega (arith, e1)) (omega (arith, f1)) few-b in
    let d = row-whole 2 C (D ∷ []) l2 c2 (omega (arith, e1, e2)) (omega (arith, f1, f2)) few-c in
    let e = row-whole 3 D [] l3 c3 (omega (arith, e1, e2, e3)) (omega (arith, f1, f2, f3)) few-d in
    λ i. e i ∷ d i ∷ b i ∷ a i ∷ []

-- THE TABLE HOLDS THE SELECTOR
pub table-selector : (r : Rule) (l c : List ℕ) → 256 ≤ length l → 4 ≤ length c → All (λ R. length R ≤ 32) (days_rows r)
    → selector_of (count_rows 0 (days_rows r) c) (lay_rows 0 (days_rows r) l) 4 ≡ selector dimensions r
unfolding selector
table-selector r l c h k few = four-rows _ _ _ _ l c h k few.0 few.1.0 few.1.1.0 few.1.1.1.0

-- each row's count
pub table-counts : (i : ℕ) (Rs : List (List Range)) (c : List ℕ) → i + length Rs ≤ length c → All (λ R. length R ≤ 32) Rs → (k : ℕ) → i ≤ k → k < i + length Rs
    → get_or (count_rows i Rs c) k 0 ≤ 32
unfolding count_rows
table-counts i [] c h few k l m = absurd (omega arith)
table-counts i (R ∷ Rs) c h few k l m = go (eqb k i) refl (table-counts (i + 1) Rs (set c i (length R)) (omega (arith, length-set c i (length R))) few.1 k)
  where
    go : (t : Bool) → eqb k i ≡ t → (i + 1 ≤ k → k < i + 1 + length Rs → get_or (count_rows (i + 1) Rs (set c i (length R))) k 0 ≤ 32) → get_or (count_rows i (R ∷ Rs) c) k 0 ≤ 32
    go true e ih = let z = eqb-true k i e in omega (arith, ap (λ j. get_or (count_rows i (R ∷ Rs) c) j 0) z, row_count i R Rs c (omega arith), few.0)
    go false e ih = ih (omega (arith, eqb-false k i e)) (omega arith)
