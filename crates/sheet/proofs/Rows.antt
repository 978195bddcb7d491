-- Rows of items, sort after sort: where the layouts of a rule's parts end. Rests on the laws of ends.
use mathlib.Core.Path.{◌≡◌, refl, sym, ap, ◌∙◌}
use mathlib.Core.List.{List, ◌∷◌}
use Prim.Native.Nat.{ℕ, zero, suc, ◌+◌, ◌*◌, ◌≤◌}
use Rattle.definition.specs.Field.{Read, got, refused, and_then, read_all, Layout, ◌then◌, several}
use Rattle.definition.specs.Sheet.{year_range, monthday_range, week_range, week_day_range, span}
use Rattle.definition.proofs.Faithful.{clash}
use Rattle.item.specs.Sort.{of_sort}
use Rattle.sheet.specs.End.{ends, item_ends, skip_all}
use Rattle.sheet.proofs.Ends.{item-short, skip-short}

-- ## Several of a layout
pub ends-all : {A : Type 0} (r : List ℕ → ℕ → Read A) (n : ℕ) (s : List ℕ) (p : ℕ) → ends (read_all r n s p) ≡ skip_all (λ t q. ends (r t q)) n s p
unfolding read_all skip_all
ends-all r zero s p = refl
ends-all {A} r (suc n) s p = go (r s p) (λ q. ends-all r n s q)
  where
    rest : (x : A) (w : Read (List A)) → ends (and_then (λ xs e. got (x ∷ xs) e) w) ≡ ends w
    rest x (got xs e) = refl
    rest x (refused c e) = refl

    go : (w : Read A) → ((q : ℕ) → ends (read_all r n s q) ≡ skip_all (λ t q. ends (r t q)) n s q)
        → ends (and_then (λ x q. and_then (λ xs e. got (x ∷ xs) e) (read_all r n s q)) w) ≡ and_then (λ u q. skip_all (λ t q. ends (r t q)) n s q) (ends w)
    go (got x q) ih = rest x (read_all r n s q) ∙ ih q
    go (refused c q) ih = refl

module _ (n : ℕ) (s : List ℕ) (p : ℕ) where
  pub years-row : ends ((several n year_range).read s p) ≡ skip_all (item_ends 0) n s p
  unfolding several of_sort
  years-row = ends-all year_range.read n s p

  pub monthdays-row : ends ((several n monthday_range).read s p) ≡ skip_all (item_ends 1) n s p
  unfolding several of_sort
  monthdays-row = ends-all monthday_range.read n s p

  pub weeks-row : ends ((several n week_range).read s p) ≡ skip_all (item_ends 2) n s p
  unfolding several of_sort
  weeks-row = ends-all week_range.read n s p

  pub weekdays-row : ends ((several n week_day_range).read s p) ≡ skip_all (item_ends 3) n s p
  unfolding several of_sort
  weekdays-row = ends-all week_day_range.read n s p

  pub spans-row : ends ((several n span).read s p) ≡ skip_all (item_ends 4) n s p
  unfolding several of_sort
  spans-row = ends-all span.read n s p

-- a row takes at most 52 bits for each item
pub row-short : (sort n : ℕ) (s : List ℕ) (p q : ℕ) → skip_all (item_ends sort) n s p ≡ got tt q → q ≤ p + n * 52
row-short sort n s p q e = skip-short (item_ends sort) 52 s (item-short sort s) n p q e

-- ## One layout behind another
module _ {A B : Type 0} (L : Layout A) (M : Layout B) (s : List ℕ) (p : ℕ) where
  pub ends-goes : (q : ℕ) → ends (L.read s p) ≡ got tt q → ends ((L then M).read s p) ≡ ends (M.read s q)
  unfolding ◌then◌
  ends-goes q e = go (L.read s p) e
    where
      rest : (x : A) (w : Read B) → ends {A = A × B} (and_then (λ y i. got (x, y) i) w) ≡ ends w
      rest x (got y i) = refl
      rest x (refused c i) = refl

      go : (w : Read A) → ends w ≡ got tt q → ends {A = A × B} (and_then (λ x j. and_then (λ y i. got (x, y) i) (M.read s j)) w) ≡ ends (M.read s q)
      go (refused c i) h = clash c i tt q h
      go (got x j) h = let z : j ≡ q = cc in rest x (M.read s j) ∙ ap (λ i. ends (M.read s i)) z

  pub ends-stops : (c q : ℕ) → ends (L.read s p) ≡ refused c q → ends ((L then M).read s p) ≡ refused c q
  unfolding ◌then◌
  ends-stops c q e = go (L.read s p) e
    where
      go : (w : Read A) → ends w ≡ refused c q → ends {A = A × B} (and_then (λ x j. and_then (λ y i. got (x, y) i) (M.read s j)) w) ≡ refused c q
      go (refused d i) h = h
      go (got x j) h = clash c q tt j (sym h)
