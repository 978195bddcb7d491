-- `plain_boxes::digit` meets its contract: neither divisor is 0.
use mathlib.Core.Path.{ap₂}
use Prim.Native.Nat.{◌/◌, ◌%◌}
use native.Mathlib.Omega.{arith}
use Rattle.paving.proofs.Room.{size-pos}
use Rattle.plain_boxes.specs.Digits.{digit_of}
use Rattle.plain_boxes.proofs.digit.Goals as goal

pub size_of-below-requires : goal.size_of-below-requires
size_of-below-requires c =
    let pre = c.requires in (omega (arith, pre.0), (λ k l. pre.1 k (omega arith)), pre.2)

pub nonzero_div-result : goal.nonzero_div-result
nonzero_div-result c =
    omega (arith, size-pos c.args.sizes.now c.args.dimension (λ k l. c.requires.1 k (omega arith)), c.size_of-below.ensures)

pub nonzero_rem-result : goal.nonzero_rem-result
nonzero_rem-result c =
    omega (arith, c.requires.1 c.args.dimension (omega arith), c.from.ensures)

pub returns : goal.returns
unfolding digit_of
returns c = ap₂ (λ below width. c.args.box_index / below % width) c.size_of-below.ensures c.from.ensures
