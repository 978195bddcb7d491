-- `plain_groups::group::grow` meets its contract. The loop's invariant: the block's boxes and the marks are all there, and painting what is left from here
-- gives what painting all gives.
use mathlib.Core.Path.{◌≡◌}
use Prim.Native.Nat.{suc, ◌-◌}
use lib.ListN.{length, get_or}
use Rattle.paving.specs.Grid.{Room, good_at, paint}
use Rattle.plain_boxes.specs.Groups.{grown}
use Rattle.plain_groups.proofs.group.grow.Given as goal

abbrev pub invariant-loop-interval : goal.invariant-loop-interval
invariant-loop-interval l = (l.width ≡ get_or l.sizes l.dimension 0) × Room (length l.cells) (length l.marks) l.sizes (suc l.dimension) l.block l.base
    × (paint (good_at l.cells l.sizes l.dimension l.block l.marks l.base l.value) l.base l.interval (l.width - l.interval) l.marks ≡ grown l.cells l.sizes l.first l.dimension l.initial.marks)
