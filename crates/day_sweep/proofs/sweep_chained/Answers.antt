-- `day_sweep::sweep_chained` meets its contract.
use Rattle.std.proofs.Common.{sym, ◌∙◌, arith}
use Rattle.day_sweep.proofs.RowReturns.{classes-on, classes-closed, classes-done}
use Rattle.day_sweep.proofs.sweep_chained.Goals as goal

pub returns-then-all_closed : goal.returns-then-all_closed
returns-then-all_closed c =
    let closed = rw c.loop-class.auto.interval_states at (sym c.all_closed.ensures ∙ c.if-all_closed.true) in
    classes-closed _ _ _ _ _ _ _ _ c.loop-class.invariant.on closed

pub loop-class-preserved : goal.loop-class-preserved
loop-class-preserved c =
    let swept = rw c.loop-class.auto.interval_states at c.sweep_class-place.ensures in
    let kept = c.sweep_class-place.auto in
    record {
      on = classes-on _ _ _ _ _ _ _ _ c.loop-class.invariant.on c.loop-class-test.true (omega (arith, c.requires.in_bounds)) _ _ _ (swept.0, swept.1, swept.2) swept.3
          (kept.out, kept.interval_states);
      chained = swept.4;
    }

pub returns : goal.returns
returns c = classes-done _ _ _ _ _ _ _ _ c.loop-class.invariant.on c.loop-class-test.false
