-- How wide the groups' sets are: none of their lists is empty, so the coordinates of a set are fewer than its points and its dimensions
-- together. Rests on the popped groups' laws.
use mathlib.Core.List.{List, [], ◌∷◌}
use mathlib.Core.Bool.{Bool}
use Prim.Native.Nat.{ℕ, zero, suc, ◌+◌, ◌*◌, ◌≤◌}
use native.Mathlib.Nat.{le-mul_of_pos_right}
use native.Mathlib.Omega.{arith}
use lib.ListN.{length}
use Rattle.laws.specs.Lists.{sum, All, Filled}
use Rattle.laws.specs.Tests.{Exact}
use Rattle.laws.proofs.Lists.{All-each}
use Rattle.grid.specs.Group.{Set, Map, size, groups}
use Rattle.grid.proofs.Part.{groups-each}
use Rattle.grid.proofs.Value.{pop-filled}

product : (a b : ℕ) → 1 ≤ a → 1 ≤ b → a + b ≤ a * b + 1
product zero b l k = absurd (omega arith)
product (suc a) b l k = omega (arith, le-mul_of_pos_right a k)

-- the coordinates of a set, all dimensions together: fewer than its points and its dimensions
pub set-width : {A : Type 0} (S : Set A) → All Filled S → (1 ≤ size S) × (sum length S + 1 ≤ size S + length S)
unfolding size sum
set-width [] h = (omega arith, omega arith)
set-width ([] ∷ S) h = absurd h.0
set-width ((x ∷ E) ∷ S) h =
    let k = set-width S h.1 in
    let p = product (length (x ∷ E)) (size S) (omega arith) k.0 in
    (omega (arith, p, k.0), omega (arith, p, k.1))

module _ {A W : Type 0} {eq : W → W → Bool} (exact : Exact eq) (same : A → A → Bool) (empty : W) (Ds : Set A) where
  pub groups-filled : (oks : List (W → Bool)) (f : Map A W) → All (λ g. All Filled g.1) (groups eq same empty oks Ds f)
  groups-filled oks f =
      groups-each eq same empty Ds (λ ok. Unit {0}) (λ g. All Filled g.1) (λ f'. Unit {0}) (λ ok r f' q. pop-filled exact ok Ds f') (λ S f' q. tt)
      oks (All-each _ (λ ok. tt) oks) f tt
