-- `plain_groups::group::empty_group` meets its contract. The loop's invariant: the marked boxes passed are empty, and all other boxes are as they were.
use Prim.Native.Nat.{◌<◌}
use native.Mathlib.Omega.{arith}
use lib.ListN.{length}
use Rattle.paving.proofs.Room.{room-size}
use Rattle.plain_groups.proofs.Emptying.{emptied-begin, emptied-in, emptied-out, emptied-end}
use Rattle.plain_groups.proofs.group.empty_group.Goals.{then-is_marked, else-is_marked}
use Rattle.plain_groups.proofs.group.empty_group.Goals as goal

pub size_of-boxes-requires : goal.size_of-boxes-requires
size_of-boxes-requires c =
    let room = c.requires in
    (room.column.dims, room.column.filled, omega (arith, room-size _ _ _ _ _ _ room, c.well_formed))

pub loop-box_index-init : goal.loop-box_index-init
loop-box_index-init c =
    emptied-begin _ _ _ _

pub is_marked-requires : goal.is_marked-requires
is_marked-requires c =
    let room = c.requires in
    record { dims_left_in_bounds = (room.column.dims, room.column.filled, omega (arith, room-size _ _ _ _ _ _ room, c.well_formed)); dims_left_in_bounds_2 = room.marked }

pub bounds-cells-box_index : goal.bounds-cells-box_index
bounds-cells-box_index c =
    omega (arith, room-size _ _ _ _ _ _ c.requires, c.size_of-boxes.ensures, c.loop-box_index.auto.cells, c.loop-box_index-test.true)

pub loop-box_index-preserved : goal.loop-box_index-preserved
loop-box_index-preserved c =
    let inv = c.loop-box_index.invariant in
    let on = c.loop-box_index-test.true in
    let marked = c.is_marked.ensures in
    let cell : c.loop-box_index.box_index < length c.loop-box_index.cells = omega (arith, room-size _ _ _ _ _ _ c.requires, c.size_of-boxes.ensures, c.loop-box_index.auto.cells, on) in
    elim c.if-is_marked.branch [
      | then-is_marked w ↦ emptied-in _ _ _ _ _ _ _ _ inv marked w.if-is_marked.true cell w.cells-is
      | else-is_marked w ↦ emptied-out _ _ _ _ _ _ _ _ inv marked w.if-is_marked.false w.cells-is
    ]

pub returns : goal.returns
returns c =
    let sized = c.size_of-boxes.ensures in
    emptied-end _ _ _ _ _ _ c.requires.column.filled (omega (arith, sized, c.loop-box_index-test.false, c.loop-box_index.auto.box_index-end)) c.loop-box_index.invariant
