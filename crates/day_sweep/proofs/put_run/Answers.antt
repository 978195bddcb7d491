-- `day_sweep::put_run` meets its contract.
use Rattle.day_sweep.proofs.RowReturns.{run-there, run_none}
use Rattle.day_sweep.proofs.put_run.Goals as goal

pub returns-then-a-c : goal.returns-then-a-c
returns-then-a-c c =
    run-there _ _ _ _ _ _ c.if-a-c.true c.span.ensures c.put.ensures

pub returns : goal.returns
returns c = run_none _ _ _ _ c.if-a-c.false
