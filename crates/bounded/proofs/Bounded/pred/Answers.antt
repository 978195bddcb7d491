-- `bounded::Bounded::pred` meets its contract, for every kind: one lemma for each of its two returns.
use Rattle.std.proofs.Common.{arith, ap}
use Rattle.bounded.proofs.Step.{prior-some, prior-none}
use Rattle.bounded.proofs.Bounded.pred.Goals as goal

pub returns-then-number : goal.returns-then-number
returns-then-number g c =
    rw c.prev.ensures (prior-some _ _ (omega (arith, g.met.Self.Bounded.starts, c.number.ensures, c.number-2.ensures, ap g.Self.Bounded.number_of c.BOUND_START.ensures)))

pub returns-else-number : goal.returns-else-number
returns-else-number g c =
    prior-none _ _ (omega (arith, g.met.Self.Bounded.starts, c.number.ensures, c.number-2.ensures, ap g.Self.Bounded.number_of c.BOUND_START.ensures))
