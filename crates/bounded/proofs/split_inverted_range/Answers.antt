-- `bounded::split_inverted_range` meets its contract: one lemma for each of its returns, one range or two.
use native.Mathlib.Omega.{arith}
use Rattle.bounded.specs.Strict.{pair_of}
use Rattle.bounded.proofs.Strict.{split_one, split-two}
use Rattle.bounded.proofs.split_inverted_range.Goals as goal

pub returns-then-range : goal.returns-then-range
returns-then-range c =
    let a = c.args in
    split-two (pair_of a.bounds) (a.start, a.end) _ c.to_range_strict-range.ensures (omega arith)

pub returns-else-range : goal.returns-else-range
returns-else-range c =
    let a = c.args in
    split_one (pair_of a.bounds) (a.start, a.end) _ c.to_range_strict-range.ensures (omega arith)
