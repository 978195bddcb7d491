-- A rule's rows of days, one behind the other: how far a row goes, how many ranges it gives, and one lemma for each return of the reader of
-- rows.
use mathlib.Core.Path.{◌≡◌, refl, sym, ap, ap₂, ◌∙◌}
use mathlib.Core.List.{List}
use mathlib.Core.Option.{Option, none, some}
use mathlib.Core.Bool.{Bool, true, false}
use Prim.Native.Nat.{ℕ, zero, suc, ◌+◌, ◌*◌, ◌-◌, ◌/◌, ◌≤◌}
use native.Mathlib.Omega.{arith}
use lib.Dec.{eqb}
use lib.ListN.{length, set, length-append}
use lib.Seq.{sets}
use borrow.Author.Tests.{leb-true}
use Rattle.definition.specs.Field.{got, refused, sheet_bits}
use Rattle.definition.specs.Sheet.{Form}
use Rattle.definition.proofs.Bits.{Bytes}
use Rattle.definition.proofs.Reading.{field-passed}
use Rattle.canonical_date.specs.Says.{Told, item_says}
use Rattle.canonical_date.specs.Row.{flat, items_ranges, items_end, row_ranges, answered}
use Rattle.canonical_date.specs.Days.{loaded, count_at, load_rows}
use Rattle.canonical_date.proofs.Flat.{flat-length}
use Rattle.canonical_date.proofs.ItemFacts.{some-other, item-facts}

-- ## A row's answer
pub answered-some : (place : ℕ) (end : Option ℕ) (r q : ℕ) → some (r, q) ≡ answered place end → (end ≡ some q) × (r ≡ place)
answered-some place none r q e = some-other {A = ℕ × ℕ} (r, q) (sym e)
answered-some place (some i) r q e = let pair : ◌≡◌ {A = ℕ × ℕ} (r, q) (place, i) = cc in (sym (ap (λ v. some v.1) pair), ap (λ v. v.0) pair)

pub answered-none : (place : ℕ) (end : Option ℕ) → none ≡ answered place end → end ≡ none
answered-none place none e = refl
answered-none place (some i) e = some-other {A = ℕ × ℕ} (place, i) e

-- ## How far a row goes, and how many ranges it gives
module _ (sort : ℕ) (sheet : List ℕ) (b : Bytes sheet) where
  pub items-short : (n p q : ℕ) → items_end sort n (sheet_bits sheet) p ≡ some q → q ≤ p + n * 52
  unfolding items_end
  items-short zero p q e = let z : p ≡ q = cc in omega arith
  items-short (suc n) p q e = go (item_says sort (sheet_bits sheet) p) refl (items-short n)
    where
      go : (o : Told) → item_says sort (sheet_bits sheet) p ≡ o → ((p q : ℕ) → items_end sort n (sheet_bits sheet) p ≡ some q → q ≤ p + n * 52) → q ≤ p + suc n * 52
      go none h ih = some-other q (rw (h, items_end) at e)
      go (some v) h ih = omega (arith, (item-facts sort sheet b p v.0 v.1 h).ends, ih v.1 q (rw (h, items_end) at e))

  items-few : (n p : ℕ) → length (items_ranges sort n (sheet_bits sheet) p) ≤ n * 2
  unfolding items_ranges
  items-few zero p = omega arith
  items-few (suc n) p = go (item_says sort (sheet_bits sheet) p) refl (items-few n)
    where
      go : (o : Told) → item_says sort (sheet_bits sheet) p ≡ o → ((p : ℕ) → length (items_ranges sort n (sheet_bits sheet) p) ≤ n * 2)
          → length (items_ranges sort (suc n) (sheet_bits sheet) p) ≤ suc n * 2
      go none h ih = rw (h, items_ranges) (omega arith)
      go (some v) h ih = rw (h, items_ranges)
          (omega (arith, (item-facts sort sheet b p v.0 v.1 h).few, ih v.1, length-append v.0 (items_ranges sort n (sheet_bits sheet) v.1)))

  pub row-few : (n p : ℕ) → n ≤ 16 → length (row_ranges sort n (sheet_bits sheet) p) ≤ 32
  unfolding row_ranges
  row-few n p l = go (eqb n 0) refl
    where
      go : (t : Bool) → eqb n 0 ≡ t → length (row_ranges sort n (sheet_bits sheet) p) ≤ 32
      go true k = rw k (omega arith)
      go false k = rw k (omega (arith, items-few n p))

-- a count keeps its limit
pub count-few : (form : Form) (s : List ℕ) (h n q : ℕ) → count_at form s h ≡ got n q → n ≤ 16
count-few form s h n q e = leb-true _ _ (field-passed _ _ _ s h n q e)

-- ## One lemma for each return
module _ (form : Form) (s : List ℕ) (h sort p : ℕ) (l c : List ℕ) where
  pub rows-refused : (k i q : ℕ) → count_at form s h ≡ refused i q → loaded l c none ≡ load_rows form k s h sort p l c
  unfolding load_rows
  rows-refused zero i q e = sym (rw (e, load_rows))
  rows-refused (suc k) i q e = sym (rw (e, load_rows))

  pub rows_end : (k n q : ℕ) → k ≡ 0 → count_at form s h ≡ got n q → loaded l c (some (n, p)) ≡ load_rows form k s h sort p l c
  unfolding load_rows
  rows_end k n q z e = sym (rw (z, e, load_rows))

  pub rows-stop : (k m n q : ℕ) (l' : List ℕ) → k ≡ suc m → count_at form s h ≡ got n q → items_end sort n s p ≡ none → l' ≡ sets l (sort * 64) (flat (row_ranges sort n s p))
      → loaded l' c none ≡ load_rows form k s h sort p l c
  unfolding load_rows
  rows-stop k m n q l' z e f g = sym (rw (z, e, f, load_rows) (ap (λ x. loaded x c none) (sym g)))

  pub rows-go : (k m n q i place : ℕ) (l' l'' c'' : List ℕ) (r : Option (ℕ × ℕ)) (count : ℕ) → k ≡ suc m → count_at form s h ≡ got n q → items_end sort n s p ≡ some i
      → l' ≡ sets l (sort * 64) (flat (row_ranges sort n s p)) → place ≡ sort * 64 + length (flat (row_ranges sort n s p)) → count ≡ (place - sort * 64) / 2
      → loaded l'' c'' r ≡ load_rows form m s q (sort + 1) i l' (set c sort count) → loaded l'' c'' r ≡ load_rows form k s h sort p l c
  unfolding load_rows
  rows-go k m n q i place l' l'' c'' r count z e f g a b rest =
      let many : count ≡ length (row_ranges sort n s p) = omega (arith, flat-length (row_ranges sort n s p)) in
      rest ∙ ap₂ (λ x y. load_rows form m s q (sort + 1) i x (set c sort y)) g many ∙ sym (rw (z, e, f, load_rows))
