use native.Mathlib.Omega.{arith}
use Rattle.plain_lists.proofs.Covering.{in-yes, in-next, in-no}
use Rattle.plain_lists.proofs.cover.in_ranges.Goals as goal

pub loop-range-init : goal.loop-range-init
loop-range-init c = λ k l. absurd (omega arith)

pub returns-then-in_range : goal.returns-then-in_range
returns-then-in_range c = in-yes _ _ _ c.loop-range.range _ c.in_range.ensures _ c.loop-range-test.true c.if-in_range.true

pub loop-range-preserved : goal.loop-range-preserved
loop-range-preserved c = in-next _ _ _ c.loop-range.range _ c.in_range.ensures c.loop-range.invariant c.if-in_range.false

pub returns : goal.returns
returns c = in-no _ _ _ _ _ (omega arith) c.loop-range.invariant
