-- WHAT HOLDS OF RULES' STATES AND SPANS HOLDS OF EVERY PAGE'S, if it holds of runs of minutes as well. Rests on the same law of a day.
use mathlib.Core.List.{List, [], ◌∷◌, map, flat_map}
use Rattle.laws.specs.Lists.{All}
use Rattle.laws.proofs.Lists.{All-append}
use Rattle.grid.specs.Cut.{Range}
use Rattle.definition.specs.Rule.{State, Span, Rule}
use Rattle.definition.specs.Point.{list_at}
use Rattle.definition.specs.Day.{stated, flattened, plain_span, entry_of}
use Rattle.definition.specs.Group.{day_at, pages}
use Rattle.definition.proofs.PaintedShows.{ProperRun}
use Rattle.definition.proofs.DayHolds.{InDay, InList, day-holds}
use Rattle.definition.proofs.Groups.{pages-each}
use Rattle.definition.proofs.Counts.{list-from}

module _ (P : State → Type 0) (Q : Span → Type 0) where
  -- of a rule's state and all its spans
  abbrev pub InRule : Rule → Type 0
  InRule r = P r.state × All Q r.spans

  flat-holds : (l : List Rule) → All InRule l → InList P Q (flattened (map entry_of l))
  unfolding flattened flat_map
  flat-holds [] h = tt
  flat-holds (r ∷ l) h = All-append _ (stated (entry_of r)) (flattened (map entry_of l)) (own r.spans h.0.1) (flat-holds l h.1)
    where
      own : (ss : List Span) → All Q ss → InList P Q (stated (r.state, ss))
      own [] k = tt
      own (s ∷ ss) k = ((h.0.0, k.0), own ss k.1)

  -- THE LAW
  pub pages-hold : ((r : Range) → ProperRun r → Q (plain_span r)) → (rs : List Rule) → All InRule rs → All (λ g. InDay P Q g.0) (pages rs)
  unfolding day_at
  pages-hold plain rs h = pages-each rs (InDay P Q) tt (λ p i. day-holds P Q plain (list_at rs p) (flat-holds (list_at rs p) (list-from InRule [] rs p tt h)))
