-- `bounded::Bounded::succ` meets its contract, for every kind: one lemma for each of its two returns.
use Rattle.std.proofs.Common.{arith, ap}
use Rattle.bounded.proofs.Step.{next-step, next-none}
use Rattle.bounded.proofs.Bounded.succ.Goals as goal

pub returns-then-number : goal.returns-then-number
returns-then-number g c =
    let laws = g.met.Self.Bounded in
    next-step _ _ (omega (arith, laws.ends, c.number.ensures, c.number-2.ensures, ap g.Self.Bounded.number_of c.BOUND_END.ensures)) _ _
    laws.upper c.next.ensures

pub returns-else-number : goal.returns-else-number
returns-else-number g c =
    next-none _ _ (omega (arith, g.met.Self.Bounded.ends, c.number.ensures, c.number-2.ensures, ap g.Self.Bounded.number_of c.BOUND_END.ensures))
