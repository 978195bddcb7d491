-- One lemma for each return of `lowest_class` and `in_class`.
use mathlib.Core.Path.{◌≡◌}
use mathlib.Core.List.{List}
use Prim.Native.Nat.{ℕ, ◌≤◌, ◌<◌}
use lib.Dec.{leb}
use lib.ListN.{get_or}
use borrow.Author.Tests.{lt-ltb, le-ltb}
use Rattle.std.proofs.lemmas.Bool.{lt-leb}
use Rattle.paving.specs.Grid.{lowest_class, in_class}

pub lowest-first : (k : ℕ) → k < 3 → 1 ≡ lowest_class k
unfolding lowest_class
lowest-first k h = rw (lt-ltb k 3 h)

pub lowest-third : (k : ℕ) → 3 ≤ k → k < 5 → 3 ≡ lowest_class k
unfolding lowest_class
lowest-third k h l = rw (le-ltb k 3 h, lt-ltb k 5 l)

pub lowest-last : (k : ℕ) → 3 ≤ k → 5 ≤ k → 1 ≡ lowest_class k
unfolding lowest_class
lowest-last k h l = rw (le-ltb k 3 h, le-ltb k 5 l)

module _ (classes : List ℕ) (k v kind low : ℕ) (e : kind ≡ get_or classes v 0) (q : low ≡ lowest_class k) where
  pub below-class : kind < low → leb low kind ≡ in_class classes k v
  unfolding in_class
  below-class h = rw (← e, ← q, lt-ltb kind low h, lt-leb low kind h)

  pub from-class : low ≤ kind → leb kind k ≡ in_class classes k v
  unfolding in_class
  from-class h = rw (← e, ← q, le-ltb kind low h)
