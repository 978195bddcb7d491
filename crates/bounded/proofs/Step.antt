-- One lemma for each return of successor and predecessor, for any bounds, and `next-step`, by which a step up that may stay is the next value.
-- The proofs of `succ` and `pred` cite them.
use mathlib.Core.Path.{◌≡◌}
use mathlib.Core.Bool.{cond}
use mathlib.Core.Option.{none, some}
use Prim.Native.Nat.{ℕ, suc, ◌+◌, ◌-◌, ◌≤◌, ◌<◌}
use native.Mathlib.Numerals.{add-one}
use native.Mathlib.Omega.{arith}
use lib.Dec.{ltb}
use borrow.Author.Tests.{lt-ltb, le-ltb}
use Rattle.grid.specs.Cut.{Range}
use Rattle.bounded.specs.Kind.{next, prior}

module _ (bounds : Range) (x : ℕ) where
  pub next-some : suc x < bounds.1 → some (x + 1) ≡ next bounds x
  unfolding next
  next-some h = simp (lt-ltb _ _ h, add-one)

  -- r is what a step up gives, which stays at the upper value
  pub next-step : suc x < bounds.1 → (upper r : ℕ) → upper ≡ bounds.1 → r ≡ cond (ltb x upper) (x + 1) x → some r ≡ next bounds x
  next-step h upper r u e = rw (e, lt-ltb x upper (omega (arith, h, u))) (next-some h)

  pub next-none : bounds.1 ≤ suc x → none ≡ next bounds x
  unfolding next
  next-none h = simp (le-ltb _ _ h)

  pub prior-some : bounds.0 < x → some (x - 1) ≡ prior bounds x
  unfolding prior
  prior-some h = simp (lt-ltb _ _ h)

  pub prior-none : x ≤ bounds.0 → none ≡ prior bounds x
  unfolding prior
  prior-none h = simp (le-ltb _ _ h)
