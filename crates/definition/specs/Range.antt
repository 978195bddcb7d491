-- 01, "From rules to points", Ranges: "start to end becomes start up to end's successor, excluded. If start is then at or above that
-- end, it becomes two: lowest up to end, and start up to upper." "A count of 0 days' items means the whole dimension."
use mathlib.Core.List.{List, [], ◌∷◌, flat_map}
use Rattle.std.specs.Prelude.{true, false, ℕ, suc, ltb}
use Rattle.grid.specs.Cut.{Range}

-- an item's first and last value, both included
abbrev pub Ends : Type 0
Ends = ℕ × ℕ

unfoldable pub split : Range → Ends → List Range
split bounds e = elim (ltb e.0 (suc e.1)) [ true ↦ (e.0, suc e.1) ∷ [] | false ↦ (bounds.0, suc e.1) ∷ (e.0, bounds.1) ∷ [] ]

unfoldable pub ranges : Range → List Ends → List Range
ranges bounds [] = bounds ∷ []
ranges bounds (e ∷ es) = flat_map (split bounds) (e ∷ es)
