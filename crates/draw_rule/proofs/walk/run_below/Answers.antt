-- `draw_rule::walk::run_below` meets its contract. `based`: the node's first column.
use mathlib.Core.Path.{ap}
use Prim.Native.Nat.{◌*◌}
use native.Mathlib.Omega.{arith}
use Rattle.draw_rule.proofs.walk.run_below.Goals as goal

pub overflow_mul-base : goal.overflow_mul-base
overflow_mul-base c =
    let based = ap (c.args.node *◌) c.from.ensures in
    omega (arith, based, c.requires.dimension_bound)

pub overflow_add-result : goal.overflow_add-result
overflow_add-result c =
    let based = ap (c.args.node *◌) c.from.ensures in
    omega (arith, based, c.requires.dimension_bound)

pub overflow_add-result-2 : goal.overflow_add-result-2
overflow_add-result-2 c =
    let based = ap (c.args.node *◌) c.from.ensures in
    omega (arith, based, c.requires.dimension_bound)

pub returns : goal.returns
returns c =
    let based = ap (c.args.node *◌) c.from.ensures in
    (omega (arith, based, c.from-2.ensures), omega (arith, based, c.from-3.ensures))
