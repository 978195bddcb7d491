use mathlib.Core.Path.{sym, ap, ◌∙◌}
use Prim.Native.Nat.{◌+◌}
use native.Mathlib.Omega.{arith}
use lib.ListN.{get_or}
use Rattle.box_groups.specs.Boxes.{up}
use Rattle.box_groups.proofs.Listed.{up-many, up-at, each-low, are-yes, are-no, are-end}
use Rattle.box_groups.proofs.all_are.Goals as goal

pub overflow_add-from : goal.overflow_add-from
overflow_add-from c =
    let a = c.args in
    omega (arith, each-low a.boxes.now a.shift _ c.loop-number.number-index c.requires c.loop-number-test.true, c.from.ensures, c.well_formed)

pub offset_bounds-cells-from : goal.offset_bounds-cells-from
offset_bounds-cells-from c =
    let a = c.args in
    omega (arith, each-low a.boxes.now a.shift _ c.loop-number.number-index c.requires c.loop-number-test.true, c.from.ensures, c.well_formed)

pub bounds-cells-from : goal.bounds-cells-from
bounds-cells-from c =
    let a = c.args in
    omega (arith, each-low a.boxes.now a.shift _ c.loop-number.number-index c.requires c.loop-number-test.true, c.from.ensures)

pub returns-then-cells-from : goal.returns-then-cells-from
returns-then-cells-from c =
    let a = c.args in
    let L = up a.shift a.boxes.now in
    let k = c.loop-number.number-index in
    let here = up-at a.shift a.boxes.now k c.loop-number-test.true ∙ ap (◌+ a.shift) (sym c.from.ensures) in
    are-no a.cells.now a.value L k (omega (arith, c.loop-number-test.true, up-many a.boxes.now a.shift))
    (λ e. c.if-cells-from.true (ap (λ q. get_or a.cells.now q 0) (sym here) ∙ e)) ∙ c.loop-number.invariant

pub loop-number-preserved : goal.loop-number-preserved
loop-number-preserved c =
    let a = c.args in
    let L = up a.shift a.boxes.now in
    let k = c.loop-number.number-index in
    let here = up-at a.shift a.boxes.now k c.loop-number-test.true ∙ ap (◌+ a.shift) (sym c.from.ensures) in
    are-yes a.cells.now a.value L k (omega (arith, c.loop-number-test.true, up-many a.boxes.now a.shift))
    (ap (λ q. get_or a.cells.now q 0) here ∙ c.if-cells-from.false) ∙ c.loop-number.invariant

pub returns : goal.returns
returns c =
    let a = c.args in
    are-end a.cells.now a.value (up a.shift a.boxes.now) c.loop-number.number-index (omega (arith, up-many a.boxes.now a.shift)) ∙ c.loop-number.invariant
