-- `box_groups::mark_group` meets its contract. The loop's invariant: the dimensions passed are grown.
use mathlib.Core.Path.{◌∙◌}
use Prim.Native.Nat.{◌≤◌}
use native.Mathlib.Omega.{arith}
use lib.ListN.{length, set, length-set}
use Rattle.paving.specs.Grid.{size_of}
use Rattle.paving.proofs.Room.{room-size}
use Rattle.box_groups.proofs.Groups.{group-start, group-next, group-whole, growing, filled, base-fits, step_fits, count_fits}
use Rattle.box_groups.proofs.mark_group.Goals as goal

pub bounds-cells-first : goal.bounds-cells-first
bounds-cells-first c =
    omega (arith, room-size _ _ _ _ _ _ c.requires.room, c.requires.first_bound.0)

pub overflow_cast-boxes : goal.overflow_cast-boxes
overflow_cast-boxes c =
    omega (arith, room-size _ _ _ _ _ _ c.requires.room, c.requires.first_bound.0, c.requires.first_bound.3)

pub loop-dimension-init : goal.loop-dimension-init
loop-dimension-init c =
    let a = c.args in
    group-start a.cells.now a.sizes.now a.marks.now a.boxes.now a.first a.columns
    (omega (arith, c.requires.first_bound.0, c.requires.first_bound.2)) c.requires.first_bound.1

pub overflow_sub-base : goal.overflow_sub-base
overflow_sub-base c =
    omega (arith, base-fits _ _ _ _ _ _ _ _ _ _ _ _ _ c.loop-dimension.invariant c.loop-dimension-test.true c.from-width.ensures c.requires.room c.requires.first_bound.0)

pub nonzero_rem-block : goal.nonzero_rem-block
nonzero_rem-block c =
    omega (arith, filled _ _ _ _ _ _ _ _ _ _ _ _ _ c.loop-dimension.invariant c.loop-dimension-test.true c.from-width.ensures c.requires.room c.requires.first_bound.0)

pub grow-count-requires : goal.grow-count-requires
grow-count-requires c =
    let a = c.args in
    let pre = c.requires in
    let to = c.loop-dimension.invariant in
    let enough : size_of a.sizes.now 4 ≤ length (set a.boxes.now 0 a.first) = omega (arith, pre.first_bound.2, length-set a.boxes.now 0 a.first) in (count_fits _ _ _ _ _ _ _ _ _ _ _ _ _ to c.loop-dimension-test.true c.from-width.ensures pre.room pre.first_bound.0 enough, growing _ _ _ _ _ _ _ _ _ _ _ _ _ to c.loop-dimension-test.true c.from-width.ensures pre.room pre.first_bound.0 enough pre.first_bound.3 pre.first_bound.4)

pub nonzero_div-block : goal.nonzero_div-block
nonzero_div-block c =
    omega (arith, filled _ _ _ _ _ _ _ _ _ _ _ _ _ c.loop-dimension.invariant c.loop-dimension-test.true c.from-width.ensures c.requires.room c.requires.first_bound.0)

pub overflow_mul-step : goal.overflow_mul-step
overflow_mul-step c =
    omega (
      arith,
      step_fits _ _ _ _ _ _ _ _ _ _ _ _ _ c.loop-dimension.invariant c.loop-dimension-test.true c.from-width.ensures c.requires.room c.requires.first_bound.0,
      c.well_formed,
    )

pub loop-dimension-preserved : goal.loop-dimension-preserved
loop-dimension-preserved c =
    let a = c.args in
    let pre = c.requires in
    let one = c.grow-count in
    group-next _ _ _ _ _ _ _ _ _ _ _ _ _ c.loop-dimension.invariant c.loop-dimension-test.true c.from-width.ensures pre.room pre.first_bound.0
    (omega (arith, pre.first_bound.2, length-set a.boxes.now 0 a.first)) _ _ _ one.auto.marks one.auto.boxes one.ensures.0 one.ensures.1

pub shape_of-boxes : goal.shape_of-boxes
shape_of-boxes c =
    c.loop-dimension.invariant.kept ∙ simp length-set

pub returns : goal.returns
returns c =
    let a = c.args in
    group-whole _ _ _ _ _ _ _ _ _ _ _ _ c.loop-dimension.invariant (omega arith) c.requires.first_bound.0
    (omega (arith, c.requires.first_bound.2, length-set a.boxes.now 0 a.first))
