-- The successor and the predecessor of a value, for any bounds; and what `succ` and `pred` of a kind answer, as numbers.
use Rattle.std.proofs.Math.Option as maybe
use Rattle.std.specs.Prelude.{Option, Some, None, ℕ, suc, ◌-◌, ltb}
use Rattle.laws.specs.Lists.{only_if}
use Rattle.grid.specs.Cut.{Range}

-- nothing where the successor is the upper value, which is no value of the kind
unfoldable pub next : Range → ℕ → maybe.Option ℕ
next bounds x = only_if (ltb (suc x) bounds.1) (suc x)

-- nothing at the lowest
unfoldable pub prior : Range → ℕ → maybe.Option ℕ
prior bounds x = only_if (ltb bounds.0 x) (x - 1)

-- the number of a value of a kind, where there is one
abbrev pub number_in : {K : Type 0} → (K → ℕ) → Option K → maybe.Option ℕ
number_in number_of (Some x) = maybe.some (number_of x)
number_in number_of None = maybe.none
