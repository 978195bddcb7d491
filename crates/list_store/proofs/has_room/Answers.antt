-- `list_store::has_room` meets its contract.
use mathlib.Core.Path.{ap, ◌∙◌}
use lib.Dec.{ltb}
use borrow.Author.Tests.{eq-eqb}
use Rattle.list_store.proofs.Listing.{named-length, room-none}
use Rattle.list_store.proofs.has_room.Goals as goal

pub returns-then-number-eq0 : goal.returns-then-number-eq0
returns-then-number-eq0 c = eq-eqb _ _ c.if-number-eq0.true ∙ room-none _ _ c.if-number-eq0.true

pub returns-else-number-eq0 : goal.returns-else-number-eq0
returns-else-number-eq0 c = c.entry_allowed.ensures ∙ ap (λ n. ltb n 32) (named-length _ _ c.if-number-eq0.false)
