-- `draw_rule::walk::draw_boxes` meets its contract.
use Rattle.draw_rule.proofs.walk.draw_boxes.Goals as goal

pub returns-then-plan : goal.returns-then-plan
returns-then-plan c =
    rw c.if-plan.true c.draw_each.ensures

pub returns-else-plan : goal.returns-else-plan
returns-else-plan c =
    rw c.if-plan.false c.draw_each-else-plan.ensures
