-- THE STORES, as they are made: of twice as many places as there can be boxes and one more, for a list of each from before a rule and for what the rule makes
-- of each and of the empty list; and one of 1,025, which is enough for any sheet: 512 and 513. Every number in them is 0.
use mathlib.Core.Path.{◌≡◌, refl, sym}
use mathlib.Core.List.{List}
use Prim.Native.Nat.{ℕ, zero, suc, ◌+◌, ◌-◌, ◌*◌, ◌/◌, ◌≤◌}
use native.Mathlib.Omega.{arith}
use lib.ListN.{length, get_or, take, replicate, length-replicate}
use lib.Seq.{length-take-le}
use Rattle.definition.specs.Sheet.{sheet_limits}
use Rattle.paving.specs.Grid.{size_of}
use Rattle.draw_rules.specs.Listing.{Places, NoLists}

zeros : (n k : ℕ) → get_or {A = ℕ} (replicate n 0) k 0 ≡ 0
zeros zero k = refl
zeros (suc n) zero = refl
zeros (suc n) (suc k) = zeros n k

zeros-taken : (m n k : ℕ) → get_or {A = ℕ} (take m (replicate n 0)) k 0 ≡ 0
zeros-taken zero n k = refl
zeros-taken (suc m) zero k = refl
zeros-taken (suc m) (suc n) zero = refl
zeros-taken (suc m) (suc n) (suc k) = zeros-taken m n k

-- so many cells of n
module _ (sizes : List ℕ) (n boxes : ℕ) (all : boxes ≡ size_of sizes 4) (enough : boxes ≤ n) where
  pub cells-lent : boxes ≡ length (take {A = ℕ} boxes (replicate n 0))
  cells-lent = sym (length-take-le {A = ℕ} boxes (replicate n 0) (omega (arith, length-replicate {A = ℕ} n 0)))

  no-lists : (lists memo : ℕ) → Places boxes lists memo ((memo - 2) / 2) sizes → NoLists (take boxes (replicate n 0)) (replicate lists 0) (replicate memo 0) sizes
  no-lists lists memo places = record {
    places = rw (← cells-lent, length-replicate {A = ℕ} lists 0, length-replicate {A = ℕ} memo 0) places;
    unnamed = zeros-taken boxes n;
    unmade = zeros memo;
  }

  -- for so many boxes: places for a list of each from before a rule, for what the rule makes of each, and of the empty one
  pub few-places : (most : ℕ) → boxes ≤ most → most ≤ 512 → NoLists (take boxes (replicate n 0)) (replicate ((2 * most + 1) * 33) 0) (replicate (2 * most + 2) 0) sizes
  few-places most few low = no-lists ((2 * most + 1) * 33) (2 * most + 2) (record {
    one_cell = all;
    few-boxes = omega (arith, all);
    some = omega arith;
    few = omega arith;
    enough = λ m a b. omega arith;
    room = λ m a b. (omega arith, omega arith);
  })

  pub all-places : size_of sizes 4 ≤ sheet_limits.boxes → NoLists (take boxes (replicate n 0)) (replicate 33825 0) (replicate 1026 0) sizes
  all-places few = no-lists 33825 1026 (record {
    one_cell = all;
    few-boxes = few;
    some = omega arith;
    few = omega arith;
    enough = λ m a b. b;
    room = λ m a b. (omega arith, omega arith);
  })
