-- How many numbers of a list pass a test: after a store of one that passes, where none does, and at most.
use mathlib.Core.Path.{◌≡◌, refl}
use mathlib.Core.Bool.{Bool, true, false, cond}
use mathlib.Core.List.{List, [], ◌∷◌}
use Prim.Native.Nat.{ℕ, zero, suc, ◌+◌, ◌≤◌, ◌<◌}
use native.Mathlib.Omega.{arith}
use lib.ListN.{length, get_or, take, set}
use Rattle.laws.specs.Lists.{count}

module _ (t : ℕ → Bool) where
  pub count_most : (xs : List ℕ) → count t xs ≤ length xs
  unfolding count
  count_most [] = omega arith
  count_most (x ∷ xs) = go (t x) (count_most xs)
    where
      go : (b : Bool) → count t xs ≤ length xs → cond b 1 0 + count t xs ≤ suc (length xs)
      go true h = omega arith
      go false h = omega arith

  pub count_none : (n : ℕ) (xs : List ℕ) → ((k : ℕ) → t (get_or xs k 0) ≡ false) → count t (take n xs) ≡ 0
  unfolding count
  count_none zero xs h = refl
  count_none (suc n) [] h = refl
  count_none (suc n) (x ∷ xs) h = rw (h 0) (omega (arith, count_none n xs (λ k. h (suc k))))

  -- one that passes in the place of one that doesn't
  pub count-more : (xs : List ℕ) (i v : ℕ) → i < length xs → t (get_or xs i 0) ≡ false → t v ≡ true → count t (set xs i v) ≡ suc (count t xs)
  unfolding count
  count-more [] i v l f p = absurd (omega arith)
  count-more (x ∷ xs) zero v l f p = rw (f, p) (omega arith)
  count-more (x ∷ xs) (suc i) v l f p = omega (arith, count-more xs i v (omega arith) f p)
