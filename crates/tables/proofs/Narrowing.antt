-- Search among rising numbers: they do not fall, and where the library's search among some of them ends is the place sought.
use Rattle.std.proofs.Common.{◌≡◌, ℕ, zero, suc, ◌+◌, ◌-◌, ◌≤◌, ◌<◌, true, false, ltb, ltb-true, ltb-false, List, length, get_or, take, drop, length-take, length-drop, ◌∙◌, arith}
use Rattle.std.specs.List.Sorted.{IsNonDecreasingBy, IsPartitionPoint}
use Rattle.std.proofs.lemmas.List.{get_or-take, get_or-drop}
use Rattle.std.proofs.lemmas.List.Sorted.{IsNonDecreasingBy-from_default}
use Rattle.tables.specs.Search.{Rising, PlaceOf}

-- ## Rising numbers
pub rising-later : (s : List ℕ) (p q e : ℕ) → p ≤ q → Rising s p e → Rising s q e
rising-later s p q e h r k l m = r k (omega arith) m

pub rising_le : (s : List ℕ) (p e : ℕ) → Rising s p e → (j k : ℕ) → p ≤ j → j ≤ k → k < e → get_or s j 0 ≤ get_or s k 0
rising_le s p e r j k l h m = go (k - j) j l (omega arith)
  where
    go : (n i : ℕ) → p ≤ i → i + n ≡ k → get_or s i 0 ≤ get_or s k 0
    go zero i a q = let z : i ≡ k = omega arith in rw z (omega arith)
    go (suc n) i a q = omega (arith, r i a (omega arith), go n (i + 1) (omega arith) (omega arith))

-- ## The search among the numbers from p up to e
module _ (s : List ℕ) (p e : ℕ) (h : p ≤ e) (l : e ≤ length s) where
  sought : List ℕ
  sought = take (e - p) (drop p s)

  sought-length : length sought ≡ e - p
  unfolding sought
  sought-length = simp (length-take, length-drop) (omega arith)

  sought-at : (i : ℕ) → i < e - p → get_or sought i 0 ≡ get_or s (p + i) 0
  unfolding sought
  sought-at i m = get_or-take (e - p) (drop p s) i 0 m ∙ get_or-drop p s i 0

  pub sought-rises : Rising s p e → IsNonDecreasingBy (λ y. y) (take (e - p) (drop p s))
  unfolding sought
  sought-rises r = IsNonDecreasingBy-from_default (λ y. y) sought 0
      (λ i j a b. omega (
        arith,
        sought-length,
        sought-at i (omega (arith, sought-length)),
        sought-at j (omega (arith, sought-length)),
        rising_le s p e r (p + i) (p + j) (omega arith) (omega arith) (omega (arith, sought-length)),
      ))

  pub place-found : (x i : ℕ) → i ≤ length (take (e - p) (drop p s))
      → IsPartitionPoint (λ y. ltb y x ≡ true) (λ y. ltb y x ≡ false) (take (e - p) (drop p s)) i → PlaceOf s p e x (p + i)
  unfolding sought
  place-found x i short parted = record {
    from_first = omega arith;
    to_end = omega (arith, sought-length);
    below = λ k a b. under k (k - p) (omega arith) (omega arith);
    reached = λ b. omega (arith, ltb-false _ _ (parted.1 i 0 (omega arith) (omega (arith, sought-length))), sought-at i (omega arith));
  }
    where
      under : (k j : ℕ) → k ≡ p + j → j < i → get_or s k 0 < x
      under k j q a = rw q (omega (arith, ltb-true _ _ (parted.0 j 0 (omega arith) a), sought-at j (omega (arith, sought-length))))
