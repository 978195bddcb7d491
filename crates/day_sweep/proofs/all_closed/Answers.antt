-- `day_sweep::all_closed` meets its contract.
use Rattle.std.proofs.Common.{◌∙◌}
use Rattle.day_sweep.proofs.RowReturns.{closed-not, closed_on, closed-end}
use Rattle.day_sweep.proofs.all_closed.Goals as goal

pub returns-then-state-ne-CLOSED : goal.returns-then-state-ne-CLOSED
returns-then-state-ne-CLOSED c = closed-not c.args.interval_states.now _ _ c.loop-state-test.true c.if-state-ne-CLOSED.true ∙ c.loop-state.invariant

pub loop-state-preserved : goal.loop-state-preserved
loop-state-preserved c = closed_on c.args.interval_states.now _ _ c.loop-state-test.true c.if-state-ne-CLOSED.false ∙ c.loop-state.invariant

pub returns : goal.returns
returns c = closed-end c.args.interval_states.now _ _ c.loop-state-test.false ∙ c.loop-state.invariant
