-- THE RANGES OF ONE ROW: which two meet, by their ends in the table; whether one meets another before it; and whether any two do. Rests on the
-- laws of pairs.
use mathlib.Core.Path.{◌≡◌, refl, sym, ap, ap₂, ◌∙◌}
use mathlib.Core.List.{List}
use mathlib.Core.Bool.{Bool, true, false, ◌||◌, true≢false}
use Prim.Native.Nat.{ℕ, zero, suc, max, ◌+◌, ◌*◌, ◌≤◌, ◌<◌}
use native.Mathlib.Omega.{arith}
use borrow.Author.Count.{below_more}
use lib.Dec.{ltb}
use lib.ListN.{length, get_or, length-map}
use borrow.Author.Tests.{lt-ltb, le-ltb}
use Rattle.std.specs.List.{list_any, range_with_len}
use Rattle.laws.specs.Lists.{from, any_of, any_pair}
use Rattle.laws.proofs.Flags.{and-false, not-true}
use Rattle.laws.proofs.Lists.{any_none}
use Rattle.laws.proofs.Numbers.{length_from, get_d-from, Mem-from, any-from, from-none}
use Rattle.laws.proofs.Pairs.{at_pair, pair-at}
use Rattle.grid.specs.Cut.{Range}
use Rattle.definition.specs.OverBoxes.{meets}
use Rattle.tables.specs.Sizes.{range_places}
use Rattle.tables.specs.Ranges.{range_of}
use Rattle.overlap.specs.Overlap.{row_of, EndBy}

-- what the library's search asks of n numbers, from s on
pub any_asked : (t : ℕ → Bool) (s n : ℕ) → list_any t (range_with_len s n) ≡ any_of t (from s n)
unfolding any_of from
any_asked t s zero = refl
any_asked t s (suc n) = let e : s + 1 ≡ suc s = omega arith in rw e (ap (λ b. t s || b) (any_asked t (suc s) n))

module _ (ranges : List ℕ) (i : ℕ) where
  -- ## Two ranges
  module _ (a b : ℕ) where
    pub meet-yes : get_or ranges (i * range_places + 2 * a) 0 < get_or ranges (i * range_places + 2 * b + 1) 0
        → ltb (get_or ranges (i * range_places + 2 * b) 0) (get_or ranges (i * range_places + 2 * a + 1) 0) ≡ meets (range_of ranges i a) (range_of ranges i b)
    unfolding range_of
    meet-yes h = rw (lt-ltb _ _ h)

    pub meet-no : get_or ranges (i * range_places + 2 * b + 1) 0 ≤ get_or ranges (i * range_places + 2 * a) 0 → false ≡ meets (range_of ranges i a) (range_of ranges i b)
    unfolding range_of
    meet-no h = rw (le-ltb _ _ h)

  -- ## A range and those before it
  abbrev pub before : ℕ → ℕ → Bool
  before n k = meets (range_of ranges i k) (range_of ranges i n)

  -- the first k of them do not meet it
  abbrev pub Passed : ℕ → ℕ → Type 0
  Passed n k = (j : ℕ) → j < k → before n j ≡ false

  -- one that begins where all before it have ended meets none
  pub late-none : (n v : ℕ) → EndBy ranges i n v → v ≤ get_or ranges (i * range_places + 2 * n) 0 → false ≡ any_of (before n) (from 0 n)
  unfolding range_of
  late-none n v ends h = sym (from-none (before n) 0 n (λ k a b. rw (le-ltb (range_of ranges i n).0 (range_of ranges i k).1 (omega (arith, h, ends k (omega arith)))) (and-false (ltb (range_of ranges i k).0 (range_of ranges i n).1))))

  -- ## All ranges of the row
  -- no two of the first n meet
  abbrev pub Apart : ℕ → Type 0
  Apart n = (k : ℕ) → k < n → Passed k k

  pub apart_next : (n : ℕ) → Apart n → any_of (before n) (from 0 n) ≡ false → Apart (n + 1)
  apart_next n h e = below_more (λ k. Passed k k) n h (λ j l. any_none (before n) j (from 0 n) e (Mem-from j 0 n (omega arith) (omega arith)))

  pub ends_next : (n v : ℕ) → EndBy ranges i n v → (w : ℕ) → w ≡ max v (get_or ranges (i * range_places + 2 * n + 1) 0) → EndBy ranges i (n + 1) w
  unfolding range_of
  ends_next n v h w e = below_more (λ k. (range_of ranges i k).1 ≤ w) n (λ k l. omega (arith, h k l)) (omega arith)

  module _ (count : ℕ) where
    abbrev row : List Range
    row = row_of ranges i count

    all_there : length row ≡ count
    all_there = length-map (from 0 count) (range_of ranges i) ∙ length_from 0 count

    at_row : (j k : ℕ) → j < count → k < count → meets (get_or row j (0, 0)) (get_or row k (0, 0)) ≡ meets (range_of ranges i j) (range_of ranges i k)
    at_row j k a b = ap₂ meets (one j a) (one k b)
      where
        one : (n : ℕ) → n < count → get_or row n (0, 0) ≡ range_of ranges i n
        one n l = let z : 0 + n ≡ n = omega arith in get_d-from (range_of ranges i) (0, 0) 0 count n l ∙ ap (range_of ranges i) z

    pub row-yes : (n : ℕ) → n < count → any_of (before n) (from 0 n) ≡ true → true ≡ any_pair meets row
    row-yes n l e =
        let k = any-from (before n) 0 n e in
        sym (at_pair meets (0, 0) row k.0 n (omega (arith, k.2), omega (arith, all_there), at_row k.0 n (omega (arith, k.2)) l ∙ k.3))

    pub row-no : (n : ℕ) → count ≤ n → Apart n → false ≡ any_pair meets row
    row-no n l h = sym (not-true (any_pair meets row) (λ e.
        let p = pair-at meets (0, 0) row e in
        let less : p.1 < count = omega (arith, all_there, p.2.1) in
        true≢false (sym p.2.2 ∙ at_row p.0 p.1 (omega (arith, p.2.0)) less ∙ h p.1 (omega arith) p.0 p.2.0)))
