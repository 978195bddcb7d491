-- `plain_lists::cover::holds_in` meets its contract.
use native.Mathlib.Omega.{arith}
use Rattle.plain_lists.proofs.Covering.{held-told}
use Rattle.plain_lists.proofs.cover.holds_in.Goals as goal

pub in_ranges-requires : goal.in_ranges-requires
in_ranges-requires c =
    let pre = c.requires in
    omega (arith, pre.0.few _ pre.1, pre.0.all-ranges, pre.1, c.from-count.ensures)

pub returns : goal.returns
returns c = held-told _ _ _ _ _ _ _ c.from-count.ensures c.in_ranges.ensures
