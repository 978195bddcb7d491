-- One lemma for each return of `split_inverted_range` and of `to_range_inclusive`, for any bounds.
use mathlib.Core.Path.{◌≡◌, ap}
use mathlib.Core.List.{[], ◌∷◌}
use mathlib.Core.Option.{none, some}
use Prim.Native.Nat.{suc, ◌-◌, ◌≤◌, ◌<◌}
use borrow.Author.Tests.{lt-ltb, le-ltb}
use Rattle.grid.specs.Cut.{Range}
use Rattle.definition.specs.Range.{Ends, split}
use Rattle.bounded.specs.Strict.{strict, inclusive}

module _ (bounds : Range) (e : Ends) (r : Range) (q : r ≡ strict e) where
  pub split_one : r.0 < r.1 → r ∷ [] ≡ split bounds e
  unfolding split
  split_one h = rw (lt-ltb e.0 (suc e.1) (rw q at h), split) (ap (◌∷ []) q)

  pub split-two : r.1 ≤ r.0 → (bounds.0, r.1) ∷ (r.0, bounds.1) ∷ [] ≡ split bounds e
  unfolding split
  split-two h = rw (le-ltb e.0 (suc e.1) (rw q at h), split) (ap (λ (p : Range). (bounds.0, p.1) ∷ (p.0, bounds.1) ∷ []) q)

module _ (r : Range) where
  pub inclusive-some : r.0 < r.1 → some (r.0, r.1 - 1) ≡ inclusive r
  unfolding inclusive
  inclusive-some h = simp (lt-ltb _ _ h)

  pub inclusive-none : r.1 ≤ r.0 → none ≡ inclusive r
  unfolding inclusive
  inclusive-none h = simp (le-ltb _ _ h)
