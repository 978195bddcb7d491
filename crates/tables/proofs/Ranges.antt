-- Rows of a table: a row that is lent, and the rows after one of them was written; and elements that pass, counted.
use mathlib.Core.Path.{◌≡◌, refl, sym, ap, ◌∙◌}
use mathlib.Core.Bool.{Bool, true, false, ◌||◌, not, cond}
use mathlib.Core.List.{List, [], ◌∷◌, ◌++◌}
use Prim.Native.Nat.{ℕ, ◌+◌, ◌-◌, ◌*◌, ◌≤◌, ◌<◌}
use native.Mathlib.Omega.{arith}
use native.Mathlib.Nat.{mul-le-mul_right}
use lib.Dec.{eqb}
use lib.ListN.{length, get_or, take, drop, length-append, length-drop, take-append-drop}
use lib.Seq.{length-take-le, take-append-le, drop-append-le, take_at, drop_at, get_or-take, get_or-drop}
use borrow.Author.Tests.{ne_eqb}
use Rattle.laws.specs.Lists.{any_of, count}
use Rattle.tables.specs.Ranges.{table_row}

-- what stands in front of a seam stands there whatever follows
front_kept : (n p : ℕ) (ys zs : List ℕ) → p + n ≤ length ys → take n (drop p (ys ++ zs)) ≡ take n (drop p ys)
front_kept n p ys zs h = ap (take n) (drop-append-le p ys zs (omega arith)) ∙ take-append-le n (drop p ys) zs (omega (arith, length-drop p ys))

-- row i of a table was written anew
module _ (table row rest : List ℕ) (i n : ℕ) (there : i * n ≤ length table) where
  -- the rows before it are what they were
  pub row_kept : (k : ℕ) → k < i → table_row (take (i * n) table ++ (row ++ rest)) k n ≡ table_row table k n
  row_kept k h =
      let front = take (i * n) table in
      let inside : k * n + n ≤ length front = omega (arith, length-take-le (i * n) table there, mul-le-mul_right n h) in
      front_kept n (k * n) front (row ++ rest) inside ∙ sym (front_kept n (k * n) front (drop (i * n) table) inside) ∙ ap (λ l. table_row l k n) (take-append-drop (i * n) table)

  -- and it is the new one
  pub row_new : length row ≡ n → table_row (take (i * n) table ++ (row ++ rest)) i n ≡ row
  row_new e = ap (take n) (drop_at (take (i * n) table) (row ++ rest) (i * n) (length-take-le (i * n) table there)) ∙ take_at row rest n e

-- the table is as long as it was
pub table-length : (table row : List ℕ) (at n : ℕ) → at + n ≤ length table → length row ≡ length (take n (drop at table)) → length (take at table ++ (row ++ drop n (drop at table))) ≡ length table
table-length table row at n inside e =
    omega (
      arith,
      length-append (take at table) (row ++ drop n (drop at table)),
      length-append row (drop n (drop at table)),
      length-take-le at table (omega arith),
      length-drop n (drop at table),
      length-drop at table,
      e,
      length-take-le n (drop at table) (omega (arith, length-drop at table)),
    )

-- a part of it is as long as its ends say
pub part_length : (table : List ℕ) (at end : ℕ) → at ≤ end → end ≤ length table → length (take (end - at) (drop at table)) ≡ end - at
part_length table at end h inside = length-take-le (end - at) (drop at table) (omega (arith, length-drop at table))

-- ## A row
-- as it is lent
pub row-lent : (table : List ℕ) (k n : ℕ) → take (k * n + n - k * n) (drop (k * n) table) ≡ table_row table k n
row-lent table k n = let z : k * n + n - k * n ≡ n = omega arith in ap (λ m. take m (drop (k * n) table)) z

pub row-long : (table : List ℕ) (k n : ℕ) → k * n + n ≤ length table → length (table_row table k n) ≡ n
row-long table k n inside = let z : k * n + n - k * n ≡ n = omega arith in ap length (sym (row-lent table k n)) ∙ part_length table (k * n) (k * n + n) (omega arith) inside ∙ z

pub row_at : (table : List ℕ) (k n i : ℕ) → i < n → get_or (table_row table k n) i 0 ≡ get_or table (k * n + i) 0
row_at table k n i h = get_or-take n (drop (k * n) table) i 0 h ∙ get_or-drop (k * n) table i 0

-- ## Elements counted
-- some element passes where one or more do
pub any-count : {A : Type 0} (t : A → Bool) (xs : List A) → any_of t xs ≡ not (eqb (count t xs) 0)
unfolding any_of count
any-count t [] = refl
any-count t (x ∷ xs) = go (t x) (any-count t xs)
  where
    go : (b : Bool) → any_of t xs ≡ not (eqb (count t xs) 0) → b || any_of t xs ≡ not (eqb (cond b 1 0 + count t xs) 0)
    go true h = ap not (sym (ne_eqb (1 + count t xs) 0 (omega arith)))
    go false h = let e : 0 + count t xs ≡ count t xs = omega arith in h ∙ ap (λ n. not (eqb n 0)) (sym e)
