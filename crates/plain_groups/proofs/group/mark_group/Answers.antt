use mathlib.Core.Path.{◌≡◌}
use Prim.Native.Nat.{suc, ◌+◌, ◌/◌}
use native.Mathlib.Omega.{arith}
use native.Mathlib.Nat.{div-eq_of_lt}
use Rattle.paving.specs.Grid.{size_of}
use Rattle.paving.proofs.Room.{room-len₂}
use Rattle.plain_boxes.specs.Groups.{base_of}
use Rattle.plain_boxes.proofs.Growing.{group-begin, group-more}
use Rattle.plain_groups.proofs.group.mark_group.Goals as goal

pub loop-dimension-init : goal.loop-dimension-init
loop-dimension-init c = group-begin _ _ _ _ _

pub grow-requires : goal.grow-requires
grow-requires c =
    record { room = room-len₂ _ _ _ _ _ _ _ c.loop-dimension.auto.marks c.requires.room; first_bound = (c.requires.first_bound, c.loop-dimension-test.true) }

pub loop-dimension-preserved : goal.loop-dimension-preserved
loop-dimension-preserved c =
    let a = c.args in
    let i = c.loop-dimension.dimension in
    let room = c.requires.room in
    let z : i + 1 ≡ suc i = omega arith in
    rw z (group-more a.cells.now a.sizes.now a.first i a.marks.now _ _ c.loop-dimension-test.true (room.column.filled i c.loop-dimension-test.true) (omega (arith, room.marked)) c.loop-dimension.invariant c.grow.ensures)

pub returns : goal.returns
unfolding base_of
returns c =
    let a = c.args in
    let all : c.loop-dimension.dimension ≡ 4 = omega (arith, c.loop-dimension-test.false) in
    let whole : a.first / size_of a.sizes.now 4 ≡ 0 = div-eq_of_lt c.requires.first_bound in
    let start : base_of a.sizes.now 4 ≡ 0 = omega arith in
    rw (all, whole, start) at c.loop-dimension.invariant
