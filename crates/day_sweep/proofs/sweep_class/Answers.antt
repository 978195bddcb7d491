-- `day_sweep::sweep_class` meets its contract.
use Rattle.std.proofs.Common.{refl, arith}
use Rattle.day_sweep.proofs.RowReturns.{sweeping-skips, not_plain, sweeping-takes, sweeping-ends}
use Rattle.day_sweep.proofs.Chains.{chained-clear}
use Rattle.day_sweep.proofs.sweep_class.Goals.{then-state_class-class, else-state_class-class}
use Rattle.day_sweep.proofs.sweep_class.Goals as goal

pub take_state-place-requires-clause-i_value : goal.take_state-place-requires-clause-i_value
take_state-place-requires-clause-i_value c =
    rw c.loop-i.auto.interval_states
    (refl, not_plain _ _ _ c.requires.le_class.0 c.state_class.ensures c.if-state_class-class.true, c.loop-i.invariant.chained)

pub loop-i-preserved : goal.loop-i-preserved
loop-i-preserved c =
    let inv = c.loop-i.invariant in
    elim c.if-state_class-class.branch [
      | then-state_class-class w ↦
          let taken = rw c.loop-i.auto.interval_states at w.take_state-place.ensures in
          rw (w.out-is, w.interval_states-is, w.place-is) (record {
            small = omega (arith, inv.small, taken.3, c.requires.le_class, c.loop-i-test.true);
            swept = sweeping-takes _ _ _ _ _ _ _ _ _ _ inv.swept c.loop-i-test.true _ c.state_class.ensures w.if-state_class-class.true _ _ (taken.0, taken.1) _ taken.2;
            chained = chained-clear _ _ _ _ _ _ (omega arith) _ taken.2 inv.chained;
          })
      | else-state_class-class w ↦ rw (w.out-is, w.interval_states-is, w.place-is) (record {
        small = omega (arith, inv.small, c.loop-i-test.true);
        swept = sweeping-skips _ _ _ _ _ _ _ _ _ _ inv.swept c.loop-i-test.true _ c.state_class.ensures w.if-state_class-class.false;
        chained = inv.chained;
      })
    ]

pub returns : goal.returns
returns c =
    let inv = c.loop-i.invariant in
    let h = sweeping-ends _ _ _ _ _ _ _ _ _ _ inv.swept c.loop-i-test.false in
    (h.0, h.1, h.2, omega (arith, inv.small), inv.chained)
