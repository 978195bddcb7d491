-- `plain_groups::group::is_good` meets its contract. The loop's invariant: each marked box passed has the value.
use mathlib.Core.Bool.{false≢true}
use mathlib.Core.Path.{sym, ◌∙◌}
use native.Mathlib.Omega.{arith}
use lib.ListN.{length}
use Rattle.paving.proofs.Room.{room-size}
use Rattle.plain_groups.proofs.Good.{are-begin, are-more, block-fits, good-end, good-no}
use Rattle.plain_groups.proofs.group.is_good.Goals.{else-cells-box_index-via-then-cells-box_index+else-is_marked, else-cells-box_index-via-else-cells-box_index}
use Rattle.plain_groups.proofs.group.is_good.Goals as goal

pub size_of-size-requires : goal.size_of-size-requires
size_of-size-requires c =
    let room = c.requires in
    (room.column.dims, room.column.filled, omega (arith, room-size _ _ _ _ _ _ room, c.well_formed))

pub overflow_mul-begin : goal.overflow_mul-begin
overflow_mul-begin c =
    let a = c.args in
    omega (arith, block-fits (length a.cells.now) a.sizes.now a.dims_left a.block c.size_of-size.result c.size_of-size.ensures c.requires.column, c.well_formed)

pub loop-box_index-init : goal.loop-box_index-init
loop-box_index-init c =
    (are-begin _ _ _ _ _ _ _)

pub offset_bounds-cells-box_index : goal.offset_bounds-cells-box_index
offset_bounds-cells-box_index c =
    let a = c.args in
    let fits = block-fits (length a.cells.now) a.sizes.now a.dims_left a.block c.size_of-size.result c.size_of-size.ensures c.requires.column in
    omega (arith, fits, c.loop-box_index-test.true, c.well_formed)

pub bounds-cells-box_index : goal.bounds-cells-box_index
bounds-cells-box_index c =
    let a = c.args in
    let fits = block-fits (length a.cells.now) a.sizes.now a.dims_left a.block c.size_of-size.result c.size_of-size.ensures c.requires.column in
    omega (arith, fits, c.loop-box_index-test.true)

pub is_marked-requires : goal.is_marked-requires
is_marked-requires c =
    let room = c.requires in
    record { dims_left_in_bounds = (room.column.dims, room.column.filled, omega (arith, room-size _ _ _ _ _ _ room, c.well_formed)); dims_left_in_bounds_2 = room.marked }

pub returns-then-is_marked : goal.returns-then-is_marked
returns-then-is_marked c =
    good-no _ _ _ _ _ _ c.requires.column.filled _ _ c.size_of-size.ensures _ _ c.loop-box_index.auto.box_index (omega (arith, c.loop-box_index-test.true))
    c.is_marked.ensures c.if-is_marked.true c.if-cells-box_index.true

pub loop-box_index-preserved : goal.loop-box_index-preserved
loop-box_index-preserved c =
    let inv = c.loop-box_index.invariant in
    let on = c.loop-box_index-test.true in
    are-more _ _ _ _ _ _ _ _ inv
    (elim c.else-cells-box_index.branch [
      | else-cells-box_index-via-then-cells-box_index+else-is_marked w ↦ λ m. absurd (false≢true (sym w.if-is_marked.false ∙ w.is_marked.ensures ∙ m))
      | else-cells-box_index-via-else-cells-box_index w ↦ λ m. w.if-cells-box_index.false
    ])

pub returns : goal.returns
returns c =
    good-end _ _ _ _ _ _ c.requires.column.filled _ _ c.size_of-size.ensures _ (omega (arith, c.loop-box_index-test.false)) c.loop-box_index.invariant
