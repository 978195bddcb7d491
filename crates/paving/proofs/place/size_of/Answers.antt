use mathlib.Core.Path.{◌∙◌}
use Prim.Native.Nat.{◌<◌}
use native.Mathlib.Omega.{arith}
use lib.ListN.{length-take}
use Rattle.std.proofs.lemmas.List.{get_or-take}
use Rattle.paving.proofs.Skipping.{size_none, size-next, size_fits}
use Rattle.paving.proofs.place.size_of.Goals as goal

pub loop-width-init : goal.loop-width-init
loop-width-init c = size_none _

pub overflow_mul-size : goal.overflow_mul-size
overflow_mul-size c =
    let pre = c.requires in
    let h : c.loop-width.width-index < c.args.dims_left = omega (arith, c.loop-width-test.true, length-take c.args.dims_left c.args.sizes.now) in
    omega (arith, size_fits _ _ _ _ _ pre.1 h c.loop-width.invariant (c.from-size.ensures ∙ get_or-take _ c.args.sizes.now _ 0 h), pre.2)

pub loop-width-preserved : goal.loop-width-preserved
loop-width-preserved c =
    let h : c.loop-width.width-index < c.args.dims_left = omega (arith, c.loop-width-test.true, length-take c.args.dims_left c.args.sizes.now) in
    size-next _ _ _ _ c.loop-width.invariant (c.from-size.ensures ∙ get_or-take _ c.args.sizes.now _ 0 h)
