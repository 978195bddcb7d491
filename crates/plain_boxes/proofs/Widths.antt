-- How many intervals some dimensions have: one dimension after the other.
use mathlib.Core.Path.{◌≡◌, refl}
use mathlib.Core.Bool.{Bool, true, false}
use mathlib.Core.List.{List}
use Prim.Native.Nat.{ℕ, zero, suc, ◌+◌, ◌≤◌}
use native.Mathlib.Omega.{arith}
use lib.Dec.{ltb}
use lib.ListN.{get_or}
use borrow.Author.Tests.{ltb-true, ltb-false}
use Rattle.paving.specs.Grid.{width_of}

module _ (sizes : List ℕ) where
  pub width-none : width_of sizes 0 ≡ 0
  unfolding width_of
  width-none = refl

  pub width-next : (i l : ℕ) → l ≡ suc i → width_of sizes l ≡ get_or sizes i 0 + width_of sizes i
  unfolding width_of
  width-next i l e = rw e

  pub width-le : (k l : ℕ) → k ≤ l → width_of sizes k ≤ width_of sizes l
  unfolding width_of
  width-le k zero h = let z : k ≡ 0 = omega arith in rw z (omega arith)
  width-le k (suc l) h = go (ltb k (suc l)) refl (width-le k l)
    where
      go : (b : Bool) → ltb k (suc l) ≡ b → (k ≤ l → width_of sizes k ≤ width_of sizes l) → width_of sizes k ≤ get_or sizes l 0 + width_of sizes l
      go true t ih = omega (arith, ih (omega (arith, ltb-true k (suc l) t)))
      go false t ih = let z : k ≡ suc l = omega (arith, ltb-false k (suc l) t) in rw z (omega arith)
