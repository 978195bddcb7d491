-- `state_at::boxes::child_at` meets its contract.
use native.Mathlib.Omega.{arith}
use Rattle.state_at.proofs.Search.{child-low, row-around, child-found}
use Rattle.state_at.proofs.boxes.child_at.Goals as goal

pub overflow_mul-result : goal.overflow_mul-result
overflow_mul-result c =
    omega (arith, child-low _ _ _ _ 0 c.requires.node.0 c.requires.node.1 c.from-size.ensures (omega (arith, c.requires.framed.filled, c.from-size.ensures)))

pub interval_at-requires : goal.interval_at-requires
interval_at-requires c =
    row-around _ _ _ _ _ _ _ c.requires.framed c.from-size.ensures c.from.ensures

pub overflow_add-result : goal.overflow_add-result
overflow_add-result c =
    omega (arith, child-low _ _ _ _ _ c.requires.node.0 c.requires.node.1 c.from-size.ensures c.interval_at.ensures.0)

pub returns : goal.returns
returns c =
    child-found _ _ _ _ _ _ _ _ _ c.requires.node.0 c.from-size.ensures c.from.ensures c.interval_at.ensures
