-- `day_sweep::take_runs` meets its contract.
use Rattle.std.proofs.Common.{arith}
use Rattle.day_sweep.proofs.Chains.{chained-clear, cleared-on}
use Rattle.day_sweep.proofs.TakeReturns.{taking-start, run_on, taking-on, taking-ends}
use Rattle.day_sweep.proofs.take_runs.Goals as goal

pub loop-i-init : goal.loop-i-init
loop-i-init c =
    let value = c.requires.j_value in
    record { chained = value.2; taking = taking-start _ _ _ _ _ _ _ c.requires.j_in_bounds.0 value.0 }

pub next_of-i-requires-clause-fact : goal.next_of-i-requires-clause-fact
next_of-i-requires-clause-fact c =
    let plain = c.requires.j_value.1 in
    let same = c.loop-i.auto.interval_states in
    let run = rw same at c.clear_run-end.ensures in
    let up = run_on _ _ _ _ _ _ _ _ _ _ _ c.loop-i.invariant.taking (omega arith) _ _ run in
    rw (c.clear_run-end.auto.interval_states, same)
    (plain, cleared-on _ _ _ _ _ _ (omega (arith, run.0, run.1)) _ run.2 c.loop-i.invariant.chained plain _ (λ l. run.3 _ (omega arith) (omega arith)))

pub loop-i-preserved : goal.loop-i-preserved
loop-i-preserved c =
    let same = c.loop-i.auto.interval_states in
    let run = rw same at c.clear_run-end.ensures in
    let found = rw (c.clear_run-end.auto.interval_states, same) at c.next_of-i.ensures in
    record {
      chained = chained-clear _ _ _ _ _ _ (omega (arith, run.0, run.1)) _ run.2 c.loop-i.invariant.chained;
      taking = taking-on _ _ _ _ _ _ _ _ _ _ _ c.loop-i.invariant.taking (omega arith) _ _ run _ _ c.put_run-place.ensures _ found;
    }

pub returns : goal.returns
returns c = taking-ends _ _ _ _ _ _ _ _ _ _ _ c.loop-i.invariant.taking (omega arith)
