-- `box_groups::pop_group` meets its contract: the boxes that were listed are those of the set that is marked, and they are emptied.
use mathlib.Core.Path.{sym, ap, ◌∙◌, subst}
use Prim.Native.Nat.{◌<◌}
use lib.ListN.{length}
use Rattle.laws.specs.Lists.{All}
use Rattle.box_groups.specs.Boxes.{emptied_at}
use Rattle.box_groups.proofs.Boxes.{chosen-low, boxes-low, listed-cleared}
use Rattle.box_groups.proofs.pop_group.Goals as goal

pub empty_boxes-requires : goal.empty_boxes-requires
empty_boxes-requires c =
    let a = c.args in
    let group = c.mark_group-count.ensures in
    subst (All (λ b. b < length a.cells.now)) (sym group.2) (boxes-low a.sizes.now 4 0 (length a.cells.now) _ (chosen-low _ _ 4 0) c.requires.room.column.below)

pub returns : goal.returns
returns c =
    let a = c.args in
    let group = c.mark_group-count.ensures in (
      group.0,
      listed-cleared a.sizes.now a.cells.now _ 4 _ c.requires.room.column.filled (chosen-low _ _ 4 0)
          (λ q. c.empty_boxes.ensures q ∙ ap (λ L. emptied_at a.cells.now L q) group.2),
    )
