-- The ranges that the code answers, as the definition's pairs and lists of pairs; and the steps from an item's ends to a range and back. Rests
-- on definition's specs/Range.
use Rattle.std.proofs.Math.Option as maybe
use Rattle.std.specs.Prelude.{Option, Some, None, List, [], ◌∷◌, suc, ◌-◌, ltb}
use Rattle.laws.specs.Lists.{only_if}
use Rattle.grid.specs.Cut.{Range}
use Rattle.definition.specs.Range.{Ends}
use Rattle.bounded.specs.declared.StrictRange.{StrictRange}
use Rattle.bounded.specs.declared.Split.{Split}
use Rattle.bounded.specs.declared.Split.TheVariants.{One, Two}

abbrev pub pair_of : StrictRange → Range
pair_of r = (r.start, r.end)

abbrev pub list_of : Split → List Range
list_of (One r) = pair_of r ∷ []
list_of (Two r q) = pair_of r ∷ pair_of q ∷ []

abbrev pub ends_of : Option Ends → maybe.Option Ends
ends_of (Some e) = maybe.some (e.0, e.1)
ends_of None = maybe.none

-- "start to end becomes start up to end's successor, excluded"
abbrev pub strict : Ends → Range
strict e = (e.0, suc e.1)

-- and back: the first and last value of a range that has any
unfoldable pub inclusive : Range → maybe.Option Ends
inclusive r = only_if (ltb r.0 r.1) (r.0, r.1 - 1)
