-- `bounded::to_range_inclusive` meets its contract: one lemma for each of its returns, two ends or nothing.
use native.Mathlib.Omega.{arith}
use Rattle.bounded.proofs.Strict.{inclusive-some, inclusive-none}
use Rattle.bounded.proofs.to_range_inclusive.Goals as goal

pub returns-then-range : goal.returns-then-range
returns-then-range c =
    inclusive-some _ (omega arith)

pub returns-else-range : goal.returns-else-range
returns-else-range c =
    inclusive-none _ (omega arith)
