-- 02, M-101, Planners typing the same days twice: "Two ranges of one selector that share a value in a drained rule are refused; ranges that only
-- touch are fine, and rules left may overlap." "Refusals: 11, place the first such rule's index".
use Rattle.std.specs.Prelude.{List, Bool, ◌&&◌, ℕ}
use Rattle.std.proofs.Math.Option.{Option}
use Rattle.laws.specs.Lists.{any_of, any_pair, first_index}
use Rattle.grid.specs.Cut.{Range, holds, coordinates}
use Rattle.definition.specs.Rule.{Rule}
use Rattle.definition.specs.Range.{Ends, split}
use Rattle.definition.specs.Point.{dimensions}

-- the values of an item, one that wraps having those of both its parts: Fr-Mo has Friday, Saturday, Sunday and Monday
abbrev pub has : Range → Ends → ℕ → Bool
has bounds e x = any_of (holds x) (split bounds e)

-- do two items share a value?
unfoldable pub share : Range → Ends → Ends → Bool
share bounds e f = any_of (λ x. has bounds e x && has bounds f x) (coordinates bounds)

-- "Two ranges of one selector that share a value"
unfoldable pub overlaps : Rule → Bool
overlaps r = any_of (λ d. any_pair (share d.bounds) (d.items r)) dimensions

-- "the first such rule's index"
unfoldable pub first_overlap : List Rule → Option ℕ
first_overlap rs = first_index overlaps rs
