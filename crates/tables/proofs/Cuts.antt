-- A row of cuts that rises is a row of rising numbers, as the search for a place requires.
use mathlib.Core.Path.{◌≡◌, subst}
use mathlib.Core.List.{List}
use Prim.Native.Nat.{ℕ, suc, ◌+◌, ◌-◌, ◌<◌}
use native.Mathlib.Omega.{arith}
use lib.ListN.{get_or}
use Rattle.tables.specs.Search.{Rising}
use Rattle.tables.specs.Cuts.{cut_of, RowsRise}

-- the cuts of a row that rises are rising numbers
pub row-rising : (rows sizes table : List ℕ) (l : ℕ) → RowsRise rows sizes table l → (i : ℕ) → i < l → Rising table (get_or rows i 0) (get_or rows i 0 + get_or sizes i 0 + 1)
unfolding cut_of
row-rising rows sizes table l rise i h k a b =
    let here : get_or rows i 0 + (k - get_or rows i 0) ≡ k = omega arith in
    let next : get_or rows i 0 + suc (k - get_or rows i 0) ≡ k + 1 = omega arith in
    subst (λ n. get_or table k 0 < get_or table n 0) next (subst (λ n. get_or table n 0 < get_or table (get_or rows i 0 + suc (k - get_or rows i 0)) 0) here (rise i h (k - get_or rows i 0) (omega arith)))

-- the same, its place and its size being known by other names
pub row-rising-at : (rows sizes table : List ℕ) (l : ℕ) → RowsRise rows sizes table l → (i : ℕ) → i < l → (first size : ℕ) → first ≡ get_or rows i 0 → size ≡ get_or sizes i 0
    → Rising table first (first + size + 1)
row-rising-at rows sizes table l rise i h first size e f = rw (e, f) (row-rising rows sizes table l rise i h)
