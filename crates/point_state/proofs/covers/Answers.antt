-- `point_state::covers` meets its contract: dimension after dimension, a range that holds the point's number.
use Rattle.std.proofs.Common.{arith}
use Rattle.std.proofs.lemmas.Grind.{common_steps}
use Rattle.point_state.proofs.Covered.{point-asked}
use Rattle.point_state.proofs.covers.Goals as goal

pub returns-then-holds_in-3 : goal.returns-then-holds_in-3
returns-then-holds_in-3 c =
    rw (point-asked c.args.range_counts.now c.args.ranges.now c.args.rule) (grind (arith, common_steps, c.holds_in.ensures, c.from-then-holds_in-3.ensures, c.holds_in-then-holds_in-3.ensures))

pub returns-else-holds_in-3 : goal.returns-else-holds_in-3
returns-else-holds_in-3 c =
    rw (point-asked c.args.range_counts.now c.args.ranges.now c.args.rule) (grind (arith, common_steps, c.holds_in.ensures))
