-- `day_sweep::clear_run` meets its contract.
use Rattle.std.proofs.Common.{◌∙◌, arith}
use Rattle.day_sweep.proofs.TakeReturns.{emptying-start, emptying-next, emptying-on, emptying-done}
use Rattle.day_sweep.proofs.clear_run.Goals as goal

pub loop-next-init : goal.loop-next-init
loop-next-init c = emptying-start _ _ _ _ (omega arith)

pub returns-then-interval_states-next : goal.returns-then-interval_states-next
returns-then-interval_states-next c =
    let g = c.loop-next.invariant in
    (g.from, g.up_to, g.cells, g.own, λ l e. c.if-interval_states-next.true (emptying-next _ _ _ _ _ _ g ∙ e))

pub loop-next-preserved : goal.loop-next-preserved
loop-next-preserved c = emptying-on _ _ _ _ _ _ c.loop-next.invariant (omega arith) c.if-interval_states-next.false

pub returns : goal.returns
returns c = emptying-done _ _ _ _ _ _ c.loop-next.invariant c.loop-next-test.false _ c.loop-next.auto.interval_states
