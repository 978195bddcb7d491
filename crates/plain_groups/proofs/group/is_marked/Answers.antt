-- `plain_groups::group::is_marked` meets its contract. The loop's invariant: the box lies in marked intervals of all dimensions exactly when it does in
-- those of the dimensions still to come, whose marks stand from `place` on.
use mathlib.Core.Path.{◌∙◌}
use Prim.Native.Nat.{◌+◌, ◌-◌, ◌≤◌}
use native.Mathlib.Omega.{arith}
use lib.ListN.{length}
use Rattle.paving.specs.Grid.{width_of}
use Rattle.paving.proofs.Skipping.{size-le}
use Rattle.plain_boxes.proofs.Widths.{width-next}
use Rattle.plain_groups.proofs.Marked.{marked-none, marked-in, marked-out, mark-there}
use Rattle.plain_groups.proofs.group.is_marked.Goals as goal

pub digit-requires : goal.digit-requires
digit-requires c =
    let i = c.loop-dimension.dimension - 1 in
    let pre = c.requires.dims_left_in_bounds in (
      omega (arith, pre.0, c.loop-dimension.auto.dimension, c.loop-dimension-test.true),
      (λ k le. pre.1 k (omega (arith, c.loop-dimension.auto.dimension, c.loop-dimension-test.true))),
      omega (arith, size-le c.args.sizes.now i c.args.dims_left pre.1 (omega (arith, c.loop-dimension.auto.dimension)), pre.2),
    )

pub overflow_add-place : goal.overflow_add-place
overflow_add-place c =
    let l = c.loop-dimension.dimension in
    let on = c.loop-dimension-test.true in
    let some = c.requires.dims_left_in_bounds.1 (l - 1) (omega (arith, c.loop-dimension.auto.dimension, on)) in
    let room : c.loop-dimension.place + width_of c.args.sizes.now l ≤ length c.args.marks.now = omega (arith, c.loop-dimension.invariant.0, c.requires.dims_left_in_bounds_2) in
    omega (arith, mark-there _ c.args.marks.now _ (l - 1) l _ _ (omega (arith, on)) some c.digit.ensures _ room, c.well_formed)

pub bounds-marks-place : goal.bounds-marks-place
bounds-marks-place c =
    let l = c.loop-dimension.dimension in
    let on = c.loop-dimension-test.true in
    let some = c.requires.dims_left_in_bounds.1 (l - 1) (omega (arith, c.loop-dimension.auto.dimension, on)) in
    mark-there _ c.args.marks.now _ (l - 1) l _ _ (omega (arith, on)) some c.digit.ensures _ (omega (arith, c.loop-dimension.invariant.0, c.requires.dims_left_in_bounds_2))

pub returns-then-marks-place-ne1 : goal.returns-then-marks-place-ne1
returns-then-marks-place-ne1 c =
    let on = c.loop-dimension-test.true in
    let i = c.loop-dimension.dimension - 1 in
    let some = c.requires.dims_left_in_bounds.1 i (omega (arith, c.loop-dimension.auto.dimension, on)) in
    marked-out _ _ _ i _ _ _ (omega (arith, on)) some c.digit.ensures c.if-marks-place-ne1.true ∙ c.loop-dimension.invariant.1

pub overflow_add-place-in-loop-dimension : goal.overflow_add-place-in-loop-dimension
overflow_add-place-in-loop-dimension c =
    let l = c.loop-dimension.dimension in
    let on = c.loop-dimension-test.true in
    omega (arith, width-next c.args.sizes.now (l - 1) l (omega (arith, on)), c.from-place.ensures, c.loop-dimension.invariant.0, c.requires.dims_left_in_bounds_2, c.well_formed)

pub loop-dimension-preserved : goal.loop-dimension-preserved
loop-dimension-preserved c =
    let l = c.loop-dimension.dimension in
    let on = c.loop-dimension-test.true in
    let some = c.requires.dims_left_in_bounds.1 (l - 1) (omega (arith, c.loop-dimension.auto.dimension, on)) in
    let width = c.from-place.ensures in (
      omega (arith, width-next c.args.sizes.now (l - 1) l (omega (arith, on)), width, c.loop-dimension.invariant.0),
      marked-in _ _ _ (l - 1) _ _ _ (omega (arith, on)) some c.digit.ensures _ width c.if-marks-place-ne1.false ∙ c.loop-dimension.invariant.1,
    )

pub returns : goal.returns
returns c = marked-none _ _ _ _ _ (omega (arith, c.loop-dimension-test.false)) ∙ c.loop-dimension.invariant.1
