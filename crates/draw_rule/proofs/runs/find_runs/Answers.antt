-- `draw_rule::runs::find_runs` meets its contract. The loop's invariant: the table has the runs of the dimensions before the one at hand.
use mathlib.Core.Path.{◌≡◌}
use native.Mathlib.Omega.{arith}
use Rattle.draw_rule.proofs.runs.find_runs.Goals as goal

pub loop-dimension-init : goal.loop-dimension-init
loop-dimension-init c = λ i l. absurd (omega arith)

pub find_row-requires : goal.find_row-requires
find_row-requires c =
    let pre = c.requires in
    record {
      lawful = pre.lawful;
      dimension_in_bounds = (omega (arith, c.loop-dimension-test.true, pre.in_bounds.0), omega (arith, c.loop-dimension-test.true, pre.in_bounds.1, c.loop-dimension.auto.runs));
      runs_up_to = c.loop-dimension.invariant;
    }

pub returns : goal.returns
returns c = let e : c.loop-dimension.dimension ≡ 4 = omega arith in rw e at c.loop-dimension.invariant
