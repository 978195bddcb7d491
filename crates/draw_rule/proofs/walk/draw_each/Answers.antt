-- `draw_rule::walk::draw_each` meets its contract. The loop's invariant: the boxes before the one at hand are walked over.
use mathlib.Core.Path.{◌≡◌}
use native.Mathlib.Omega.{arith}
use Rattle.list_store.proofs.Walking.{walked_as, walked_none, walked-append}
use Rattle.draw_rule.proofs.Passing.{boxes-none, boxes-more}
use Rattle.draw_rule.proofs.walk.draw_each.Goals as goal

pub loop-box_index-init : goal.loop-box_index-init
loop-box_index-init c = walked_as (boxes-none _) (walked_none c.requires.making)

pub draw-drawn-requires : goal.draw-drawn-requires
draw-drawn-requires c =
    record {
      making = c.loop-box_index.invariant.making;
      box_index_in_bounds = omega (arith, c.loop-box_index-test.true, c.loop-box_index.auto.cells, c.requires.first_le_end.1);
    }

pub loop-box_index-preserved : goal.loop-box_index-preserved
loop-box_index-preserved c =
    walked_as (boxes-more _ _ c.loop-box_index.auto.box_index) (walked-append c.requires.making c.loop-box_index.invariant c.draw-drawn.ensures)

pub returns : goal.returns
returns c = let e : c.loop-box_index.box_index ≡ c.args.end = omega arith in rw e at c.loop-box_index.invariant
