-- `day_sweep::chain::link` meets its contract.
use Rattle.std.proofs.Common.{◌-◌, length, arith}
use Rattle.day_sweep.proofs.Chains.{linking-start, linking-on, linking-ends}
use Rattle.day_sweep.proofs.chain.link.Goals as goal

pub loop-i-init : goal.loop-i-init
loop-i-init c = linking-start _ _ (omega arith) _ _ c.requires.by_index

pub loop-i-preserved : goal.loop-i-preserved
loop-i-preserved c =
    rw c.from.ensures
    (linking-on c.args.interval_states.now (length c.args.interval_states.now) c.loop-i.heads c.loop-i.chain (c.loop-i.i - 1) c.loop-i.i (omega arith) (omega arith) c.loop-i.invariant (omega arith) (omega arith))

pub returns : goal.returns
returns c = linking-ends _ _ _ _ _ (omega arith) c.loop-i.invariant
