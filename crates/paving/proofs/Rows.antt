-- Cells that do not pass a test, one after the other.
use mathlib.Core.Path.{◌≡◌, refl, sym, ◌∙◌}
use mathlib.Core.Bool.{Bool, true, false}
use mathlib.Core.List.{List}
use Prim.Native.Nat.{ℕ, ◌+◌, ◌≤◌, ◌<◌}
use native.Mathlib.Omega.{arith}
use lib.Dec.{ltb}
use lib.ListN.{get_or}
use borrow.Author.Tests.{ltb-true, ltb-false}
use Rattle.paving.specs.Grid.{NoneFrom}

module _ (cells : List ℕ) (ok : ℕ → Bool) where
  pub none-begin : (first : ℕ) → NoneFrom cells ok first first
  unfolding NoneFrom
  none-begin first = λ q l h. absurd (omega arith)

  pub none-join : (first at end : ℕ) → NoneFrom cells ok first at → NoneFrom cells ok at end → NoneFrom cells ok first end
  unfolding NoneFrom
  none-join first at end a b = λ q l h. go q l h (ltb q at) refl
    where
      go : (q : ℕ) → first ≤ q → q < end → (c : Bool) → ltb q at ≡ c → ok (get_or cells q 0) ≡ false
      go q l h true t = a q l (ltb-true q at t)
      go q l h false t = b q (omega (arith, ltb-false q at t)) h

  pub none_more : (first at : ℕ) (b : Bool) → NoneFrom cells ok first at → b ≡ ok (get_or cells at 0) → b ≡ false → NoneFrom cells ok first (at + 1)
  unfolding NoneFrom
  none_more first at b a e q = none-join first at (at + 1) a (λ x l h. let z : x ≡ at = omega arith in rw z (sym e ∙ q))
