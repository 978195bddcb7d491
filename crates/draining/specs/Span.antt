-- A rule's spans as numbers, one behind the other, up to the first that may reach tomorrow.
use Rattle.std.specs.Prelude.{List, [], ◌∷◌, Bool, true, false, cond, ℕ, zero, suc, Some, None}
use Rattle.std.specs.Prelude as std
use Rattle.std.proofs.Math.Option.{Option, none, some}
use Rattle.definition.specs.Field.{Read, got, refused}
use Rattle.definition.specs.Rule.{Span}
use Rattle.definition.specs.Sheet.{span}
use Rattle.definition.specs.Stop.{span_stops}
use Rattle.codes.specs.Number.{span_number, span_at}

-- a span's number and the bit after it
abbrev pub numbered : Read Span → Option (ℕ × ℕ)
numbered (got x q) = some (span_number x, q)
numbered (refused c p) = none

abbrev pub number_of : std.Option (ℕ × ℕ) → Option (ℕ × ℕ)
number_of (Some (n, q)) = some (n, q)
number_of None = none

unfoldable pub number_at : List ℕ → ℕ → Option (ℕ × ℕ)
number_at s p = numbered (span.read s p)

-- the numbers of n spans from p on, and whether one of them stops
unfoldable pub span_numbers : ℕ → List ℕ → ℕ → List ℕ
span_numbers zero s p = []
span_numbers (suc n) s p = elim (number_at s p) [ some v ↦ cond (span_stops (span_at v.0)) [] (v.0 ∷ span_numbers n s v.1) | none ↦ [] ]

unfoldable pub spans_stop : ℕ → List ℕ → ℕ → Bool
spans_stop zero s p = false
spans_stop (suc n) s p = elim (number_at s p) [ some v ↦ cond (span_stops (span_at v.0)) true (spans_stop n s v.1) | none ↦ true ]
