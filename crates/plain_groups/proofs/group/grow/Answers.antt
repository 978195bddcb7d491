-- `plain_groups::group::grow` meets its contract. The loop's invariant: the block's boxes and the marks are all there, and painting what is left from here
-- gives what painting all gives.
use mathlib.Core.Bool.{Bool, true, false, cond}
use mir.Val.{bool_byte}
use mathlib.Core.Path.{◌≡◌, refl, ◌∙◌}
use Prim.Native.Nat.{◌+◌}
use native.Mathlib.Omega.{arith}
use lib.ListN.{length-set}
use Rattle.paving.proofs.Room.{size-pos, room-node, room-child, room-marks, room-size}
use Rattle.paving.proofs.Marks.{paint-end, grow-in}
use Rattle.paving.proofs.Skipping.{size-le}
use Rattle.plain_boxes.proofs.Widths.{width-le}
use Rattle.plain_boxes.proofs.Growing.{grown-begin}
use Rattle.plain_groups.proofs.group.grow.Goals as goal

mark : (b : Bool) → bool_byte b ≡ cond b 1 0
mark true = refl
mark false = refl

pub offset_bounds-cells-first : goal.offset_bounds-cells-first
offset_bounds-cells-first c =
    omega (arith, room-size _ _ _ _ _ _ c.requires.room, c.requires.first_bound.0, c.well_formed)

pub bounds-cells-first : goal.bounds-cells-first
bounds-cells-first c =
    omega (arith, room-size _ _ _ _ _ _ c.requires.room, c.requires.first_bound.0)

pub size_of-requires : goal.size_of-requires
size_of-requires c =
    let room = c.requires.room in
    let low = c.requires.first_bound.1 in (
      omega (arith, room.column.dims, low),
      (λ k lt. room.column.filled k (omega (arith, low))),
      omega (arith, size-le c.args.sizes.now (c.args.dimension + 1) 4 room.column.filled (omega (arith, low)), room-size _ _ _ _ _ _ room, c.well_formed),
    )

pub nonzero_div-block : goal.nonzero_div-block
nonzero_div-block c =
    let some = size-pos c.args.sizes.now (c.args.dimension + 1) (λ k lt. c.requires.room.column.filled k (omega (arith, c.requires.first_bound.1))) in
    omega (arith, some, c.size_of.ensures)

pub width_of-requires : goal.width_of-requires
width_of-requires c =
    (c.requires.room.column.dims, omega (arith, c.requires.room.marked, c.well_formed))

pub width_of-requires-2 : goal.width_of-requires-2
width_of-requires-2 c =
    let room = c.requires.room in
    let low = c.requires.first_bound.1 in
    let all = width-le c.args.sizes.now (c.args.dimension + 1) 4 (omega (arith, low)) in
    (omega (arith, room.column.dims, low), omega (arith, all, room.marked, c.well_formed))

pub overflow_sub-base : goal.overflow_sub-base
overflow_sub-base c =
    let all = width-le c.args.sizes.now (c.args.dimension + 1) 4 (omega (arith, c.requires.first_bound.1)) in
    omega (arith, all, c.width_of.ensures, c.width_of-2.ensures)

pub loop-interval-init : goal.loop-interval-init
loop-interval-init c =
    let width = c.from-width.ensures in
    let pre = c.requires in
    let begin = grown-begin _ _ _ _ _ _ _ _ _ pre.first_bound.1 pre.first_bound.0 width c.size_of.ensures c.width_of.ensures c.width_of-2.ensures pre.room in
    (width, begin.0, begin.1)

pub overflow_add-block : goal.overflow_add-block
overflow_add-block c =
    let inv = c.loop-interval.invariant in
    omega (arith, room-node _ _ _ _ _ _ (room-child _ _ _ _ _ _ _ _ inv.0 c.loop-interval-test.true inv.1), c.well_formed)

pub overflow_mul-block : goal.overflow_mul-block
overflow_mul-block c =
    omega (arith, overflow_add-block c)

pub overflow_add-base : goal.overflow_add-base
overflow_add-base c =
    let inv = c.loop-interval.invariant in
    omega (arith, room-marks _ _ _ _ _ _ _ inv.0 inv.1, c.loop-interval.auto.marks, c.well_formed)

pub is_good-good-requires : goal.is_good-good-requires
is_good-good-requires c =
    let inv = c.loop-interval.invariant in room-child _ _ _ _ _ _ _ _ inv.0 c.loop-interval-test.true inv.1

pub overflow_add-marks : goal.overflow_add-marks
overflow_add-marks c =
    let inv = c.loop-interval.invariant in
    omega (arith, room-marks _ _ _ _ _ _ _ inv.0 inv.1, c.loop-interval.auto.marks, c.loop-interval-test.true, c.well_formed)

pub bounds-marks-base : goal.bounds-marks-base
bounds-marks-base c =
    let inv = c.loop-interval.invariant in
    omega (arith, room-marks _ _ _ _ _ _ _ inv.0 inv.1, c.loop-interval-test.true)

pub loop-interval-preserved : goal.loop-interval-preserved
loop-interval-preserved c =
    let inv = c.loop-interval.invariant in (
      inv.0,
      simp length-set inv.1,
      grow-in _ _ _ _ _ _ _ _ inv.0 _ _ _ (omega (arith, c.loop-interval-test.true)) c.is_good-good.ensures (c.from.ensures ∙ mark c.is_good-good.result) ∙ inv.2,
    )

pub returns : goal.returns
returns c =
    paint-end _ _ _ _ _ (omega (arith, c.loop-interval-test.false)) ∙ c.loop-interval.invariant.2
