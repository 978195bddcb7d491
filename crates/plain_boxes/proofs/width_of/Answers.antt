use mathlib.Core.Path.{◌≡◌, sym, ap, ◌∙◌}
use Prim.Native.Nat.{suc, ◌+◌, ◌<◌}
use native.Mathlib.Omega.{arith}
use lib.ListN.{length-take}
use Rattle.std.proofs.lemmas.List.{get_or-take}
use Rattle.paving.specs.Grid.{width_of}
use Rattle.plain_boxes.proofs.Widths.{width-none, width-next, width-le}
use Rattle.plain_boxes.proofs.width_of.Goals as goal

pub loop-size-init : goal.loop-size-init
loop-size-init c = sym (width-none _)

pub overflow_add-width : goal.overflow_add-width
overflow_add-width c =
    let sizes = c.args.sizes.now in
    let i = c.loop-size.size-index in
    let h : i < c.args.dims_left = omega (arith, c.loop-size-test.true, length-take c.args.dims_left sizes) in
    omega (arith, width-next sizes i (suc i) (omega arith), width-le sizes (suc i) c.args.dims_left h, c.from-width.ensures ∙ get_or-take _ sizes _ 0 h, c.loop-size.invariant, c.requires.1)

pub loop-size-preserved : goal.loop-size-preserved
loop-size-preserved c =
    let sizes = c.args.sizes.now in
    let i = c.loop-size.size-index in
    let h : i < c.args.dims_left = omega (arith, c.loop-size-test.true, length-take c.args.dims_left sizes) in
    omega (arith, width-next sizes i (i + 1) (omega arith), c.from-width.ensures ∙ get_or-take _ sizes _ 0 h, c.loop-size.invariant)

pub returns : goal.returns
returns c =
    let all : c.loop-size.size-index ≡ c.args.dims_left = omega (arith, length-take c.args.dims_left c.args.sizes.now) in
    c.loop-size.invariant ∙ ap (width_of c.args.sizes.now) all
