use Prim.Native.Nat.{◌<◌}
use native.Mathlib.Omega.{arith}
use Rattle.list_reclaim.proofs.Marking.{zeros-more, zeros-all}
use Rattle.list_reclaim.proofs.clear.Goals as goal

pub loop-k-init : goal.loop-k-init
loop-k-init c = λ j l. absurd (omega arith)

pub loop-k-preserved : goal.loop-k-preserved
loop-k-preserved c = zeros-more _ _ (omega (arith, c.loop-k-test.true, c.loop-k.auto.memo)) c.loop-k.invariant

pub returns : goal.returns
returns c = zeros-all _ _ (omega (arith, c.loop-k.auto.memo)) c.loop-k.invariant
