-- Rows of items, one by one: how many bits they take at most, and what is found in a row that was read.
use mathlib.Core.Path.{◌≡◌, refl, sym, ap, ap₂, ◌∙◌}
use mathlib.Core.List.{List, []}
use Prim.Native.Nat.{ℕ, zero, suc, ◌+◌, ◌*◌, ◌≤◌}
use native.Mathlib.Omega.{arith}
use Rattle.definition.specs.Field.{Read, got, refused, read_all, Layout}
use Rattle.definition.specs.Sheet.{year_range, monthday_range, week_range, week_day_range, span}
use Rattle.definition.proofs.Reading.{Short, all-parts}
use Rattle.definition.proofs.Lengths.{years-short, monthdays-short, weeks-short, weekdays-short, span-short}
use Rattle.item.proofs.Sorts.{of-each}
use Rattle.stopping.specs.declared.part.Reasoned.{Reasoned}
use Rattle.stopping.specs.Part.{found, reasoned, year_reason, monthday_reason, week_reason, weekday_reason, span_reason, item_reasoned}
use Rattle.stopping.specs.Rule.{earlier, begun, row_reasoned}
use Rattle.stopping.proofs.Order.{earliest}

-- ## How far an item reaches
reasoned-near : {A : Type 0} (L : Layout A) (f : A → ℕ) (n : ℕ) → Short L n → n ≤ 52 → (s : List ℕ) (p : ℕ) → (reasoned f p (L.read s p)).at ≤ p + 52
reasoned-near L f n short l s p = go (L.read s p) refl
  where
    go : (r : Read _) → L.read s p ≡ r → (reasoned f p r).at ≤ p + 52
    go (got x q) e = omega (arith, short s p x q e)
    go (refused c b) e = omega arith

pub item-near : (sort : ℕ) (s : List ℕ) (p : ℕ) → (item_reasoned sort s p).at ≤ p + 52
item-near sort s p = of-each _ _ _ _ _ sort s p (λ (r : Reasoned). r.at ≤ p + 52) (reasoned-near year_range year_reason 44 years-short (omega arith) s p)
    (reasoned-near monthday_range monthday_reason 34 monthdays-short (omega arith) s p) (reasoned-near week_range week_reason 20 weeks-short (omega arith) s p)
    (reasoned-near week_day_range weekday_reason 33 weekdays-short (omega arith) s p) (reasoned-near span span_reason 52 span-short (omega arith) s p)

row_near : (sort n : ℕ) (s : List ℕ) (r : Reasoned) → (row_reasoned sort n s r).at ≤ r.at + n * 52
unfolding row_reasoned
row_near sort zero s r = omega arith
row_near sort (suc n) s r =
    let x = item_reasoned sort s r.at in
    omega (arith, row_near sort n s (found (earlier r.reason x.reason) x.at), item-near sort s r.at)

pub row-reached : (sort n : ℕ) (s : List ℕ) (p : ℕ) (r : Reasoned) → r ≡ row_reasoned sort n s (begun p) → r.at ≤ p + n * 52
row-reached sort n s p r e = rw e (row_near sort n s (begun p))

-- ## One item more, and the end
module _ (sort n : ℕ) (s : List ℕ) (r : Reasoned) where
  pub row_more : (m : ℕ) → n ≡ suc m → let x = item_reasoned sort s r.at in row_reasoned sort m s (found (earlier r.reason x.reason) x.at) ≡ row_reasoned sort n s r
  unfolding row_reasoned
  row_more m e = sym (ap (λ j. row_reasoned sort j s r) e)

  pub row_ends : n ≡ 0 → row_reasoned sort n s r ≡ r
  unfolding row_reasoned
  row_ends e = ap (λ j. row_reasoned sort j s r) e

-- ## A row that was read
module _ {A : Type 0} (L : Layout A) (f : A → ℕ) (sort : ℕ) (same : (s : List ℕ) (p : ℕ) → reasoned f p (L.read s p) ≡ item_reasoned sort s p) where
  pub row_read : (n : ℕ) (s : List ℕ) (p a : ℕ) (xs : List A) (q : ℕ) → read_all L.read n s p ≡ got xs q → row_reasoned sort n s (found a p) ≡ found (earliest f a xs) q
  unfolding row_reasoned read_all earliest
  row_read zero s p a xs q e =
      let z : p ≡ q = cc in
      let v : [] ≡ xs = cc in
      ap₂ (λ ys j. found (earliest f a ys) j) v z
  row_read (suc n) s p a xs q e =
      let w = all-parts L.read n s p xs q e in
      let first : item_reasoned sort s p ≡ found (f w.0) w.1 = sym (same s p) ∙ ap (reasoned f p) w.3 in
      ap (λ x. row_reasoned sort n s (found (earlier a x.reason) x.at)) first
      ∙ row_read n s w.1 (earlier a (f w.0)) w.2 q w.4 ∙ ap (λ ys. found (earliest f a ys) q) w.5
