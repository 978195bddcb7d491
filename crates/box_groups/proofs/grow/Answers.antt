-- `box_groups::grow` meets its contract. The loop's invariant: what is marked and listed when all columns before one have been looked at.
use mathlib.Core.Path.{refl, ◌∙◌}
use native.Mathlib.Omega.{arith}
use lib.ListN.{length-set}
use Rattle.box_groups.proofs.Growing.{grown-begin, grown-next, grown-end, column-there, column-room, shift_fits}
use Rattle.box_groups.proofs.grow.Goals as goal

pub unmark-requires : goal.unmark-requires
unmark-requires c =
    let pre = c.requires.1 in omega (arith, pre.marked, pre.in-width)

pub loop-column-init : goal.loop-column-init
loop-column-init c =
    grown-begin _ _ _ _ _ _ _ _ _ c.requires.0 c.requires.1 _

pub grow_column-listed-requires : goal.grow_column-listed-requires
grow_column-listed-requires c =
    let pre = c.requires in
    let to = c.loop-column.invariant in
    let lt = c.loop-column-test.true in (
      to.more,
      column-room _ _ _ _ _ _ _ _ _ pre.0 pre.1 _ _ _ _ _ _ to lt,
      omega (arith, pre.1.marked, lt, simp length-set at to.places, c.unmark.auto.marks),
      pre.1.numbered,
      column-there _ _ _ _ _ _ _ _ _ pre.0 pre.1 _ _ _ _ _ _ to lt,
    )

pub overflow_add-shift : goal.overflow_add-shift
overflow_add-shift c =
    omega (arith, shift_fits _ _ _ _ _ _ _ _ _ c.requires.0 c.requires.1 _ _ _ _ _ _ c.loop-column.invariant c.loop-column-test.true, c.well_formed)

pub loop-column-preserved : goal.loop-column-preserved
loop-column-preserved c =
    let pre = c.requires in
    let one = c.grow_column-listed in
    grown-next _ _ _ _ _ _ _ _ _ pre.0 pre.1 _ _ _ _ _ _ c.loop-column.invariant c.loop-column-test.true _ _ _ one.auto.marks one.auto.boxes one.ensures

pub shape_of-marks : goal.shape_of-marks
shape_of-marks c =
    simp length-set at c.loop-column.invariant.places ∙ c.unmark.auto.marks

pub returns : goal.returns
returns c =
    grown-end _ _ _ _ _ _ _ _ _ c.requires.0 c.requires.1 _ _ _ _ _ _ c.loop-column.invariant _ _ c.unmark.ensures refl c.loop-column-test.false
