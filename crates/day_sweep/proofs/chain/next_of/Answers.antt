-- `day_sweep::chain::next_of` meets its contract.
use mathlib.Core.Path.{refl}
use native.Mathlib.Omega.{arith}
use Rattle.day_sweep.proofs.Chains.{hop-on, hop-first, hop-more}
use Rattle.day_sweep.proofs.chain.next_of.Goals as goal

pub loop-next-init : goal.loop-next-init
loop-next-init c =
    let pre = c.requires in
    hop-first _ _ _ _ _ pre.fact.0 pre.fact.1 (omega arith) _ refl

pub returns-then-interval_states-next : goal.returns-then-interval_states-next
returns-then-interval_states-next c =
    let inv = c.loop-next.invariant in
    (inv.0, omega arith, λ l. c.if-interval_states-next.true, λ k l u. inv.2 k l (omega arith) u)

pub loop-next-smaller : goal.loop-next-smaller
loop-next-smaller c =
    omega (arith, hop-on _ _ _ _ _ c.requires.fact.0 c.loop-next.invariant.1 (omega arith))

pub loop-next-preserved : goal.loop-next-preserved
loop-next-preserved c =
    hop-more _ _ _ _ _ c.requires.fact.0 c.loop-next.invariant.1 (omega arith) _ refl _ c.loop-next.invariant.0 c.loop-next.invariant.2
    c.if-interval_states-next.false

pub returns : goal.returns
returns c =
    let inv = c.loop-next.invariant in
    (omega arith, omega arith, λ l. absurd (omega arith), λ k l u. inv.2 k l u (omega arith))
