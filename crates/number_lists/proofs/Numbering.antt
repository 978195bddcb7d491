-- Laws of numbers: a number stands for the words that it is given, and numbers that stand for the same words are equal.
use mathlib.Core.Path.{◌≡◌, sym, ap, ◌∙◌}
use mathlib.Core.Logic.{◌⊎◌, inl, inr}
use mathlib.Core.List.{List}
use Prim.Native.Nat.{ℕ, ◌≤◌, ◌<◌}
use native.Mathlib.Omega.{arith}
use Rattle.laws.proofs.Numbers.{at_most, order}
use Rattle.day_memory.specs.Days.{FirstSame}

module _ (W : ℕ → List ℕ) where
  pub same-words : (n r : ℕ) → FirstSame W (W n) n r → W r ≡ W n
  same-words n r f = go (at_most n r)
    where
      go : (n ≤ r) ⊎ (r < n) → W r ≡ W n
      go (inl l) = ap W (let z : r ≡ n = omega (arith, f.low) in z)
      go (inr l) = f.same l

  pub one_number : (m n u v : ℕ) → FirstSame W (W m) m u → FirstSame W (W n) n v → W u ≡ W v → u ≡ v
  one_number m n u v f g e = go (order u v)
    where
      go : (u < v) ⊎ ((u ≡ v) ⊎ (v < u)) → u ≡ v
      go (inl l) = absurd (g.first u l (e ∙ same-words n v g))
      go (inr (inl q)) = q
      go (inr (inr l)) = absurd (f.first v l (sym e ∙ same-words m u f))
