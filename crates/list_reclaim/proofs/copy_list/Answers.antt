-- `list_reclaim::copy_list` meets its contract.
use mathlib.Core.Path.{ap}
use Prim.Native.Nat.{◌*◌}
use Rattle.tables.specs.Sizes.{list_places}
use Rattle.list_reclaim.proofs.Moving.{copied-here}
use Rattle.list_reclaim.proofs.copy_list.Goals as goal

pub returns-then-next-place : goal.returns-then-next-place
returns-then-next-place c =
    copied-here _ _ _ _ (ap (◌* list_places) c.if-next-place.true)

pub returns : goal.returns
returns c =
    rw c.from-rules.ensures at c.copy_words.ensures
