-- `day_sweep::take_state` meets its contract.
use Rattle.std.proofs.Common.{arith}
use Rattle.day_sweep.proofs.TakeReturns.{head-before}
use Rattle.day_sweep.proofs.take_state.Goals as goal

pub returns : goal.returns
returns c =
    let taken = c.take_runs-next.ensures in
    (head-before _ _ _ _ _ _ _ taken.0 (omega (arith, taken.1)) c.write_head.ensures, taken.1, taken.2, taken.3)
