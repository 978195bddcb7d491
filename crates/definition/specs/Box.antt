-- 01, "Numbers of the answer": "Boxes: in each dimension take both bounds and all starts and ends of the drained rules' ranges; distinct
-- values less one are its intervals; multiply the four."
use mathlib.Core.List.{List, [], ◌∷◌, flat_map}
use Rattle.std.specs.Prelude.{ℕ, ◌*◌, ◌-◌, length}
use Rattle.grid.specs.Cut.{Range, cuts}
use Rattle.definition.specs.Rule.{Rule}
use Rattle.definition.specs.Range.{ranges}
use Rattle.definition.specs.Point.{Dimension}

-- the ranges of all rules in a dimension
abbrev pub all_ranges : List Rule → Dimension → List Range
all_ranges rs d = flat_map (λ r. ranges d.bounds (d.items r)) rs

unfoldable pub box_count : List Dimension → List Rule → ℕ
box_count [] rs = 1
box_count (d ∷ ds) rs = (length (cuts d.bounds (all_ranges rs d)) - 1) * box_count ds rs
