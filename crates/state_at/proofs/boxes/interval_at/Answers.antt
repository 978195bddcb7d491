-- `state_at::boxes::interval_at` meets its contract: the value stays between two cuts, which come together.
use native.Mathlib.Omega.{arith}
use Rattle.state_at.proofs.Search.{enclosed-first, enclosed-last}
use Rattle.state_at.proofs.boxes.interval_at.Goals as goal

pub loop-upper-init : goal.loop-upper-init
loop-upper-init c =
    enclosed-first c.args.cuts.now c.args.first _ _ c.requires.1 c.requires.2 c.requires.3

pub bounds-cuts-first : goal.bounds-cuts-first
bounds-cuts-first c =
    omega (arith, c.loop-upper.invariant.1, c.requires.0)

pub loop-upper-preserved-then-value-cuts : goal.loop-upper-preserved-then-value-cuts
loop-upper-preserved-then-value-cuts c =
    (omega arith, omega (arith, c.loop-upper.invariant.1), c.loop-upper.invariant.2, c.if-value-cuts.true)

pub loop-upper-preserved : goal.loop-upper-preserved
loop-upper-preserved c =
    (omega arith, c.loop-upper.invariant.1, c.if-value-cuts.false, c.loop-upper.invariant.3)

pub returns : goal.returns
returns c =
    enclosed-last c.args.cuts.now c.args.first _ _ _ _ c.loop-upper.invariant (omega arith)
