-- 6 or 14 where a list is refused, 9 where a rule is left, else the state by the box of the point.
use mathlib.Core.Path.{◌∙◌}
use native.Mathlib.Omega.{arith}
use Rattle.draw_rules.proofs.Told.{listing-refused, listing-held}
use Rattle.prepare.proofs.ToDraw.{boxes-few}
use Rattle.lookup.proofs.Answers.{list-refused, left-refused, state-found}
use Rattle.lookup.proofs.boxes.look_boxes_in.Goals as goal

pub draw_rules-requires : goal.draw_rules-requires
draw_rules-requires c =
    let given = c.requires.lookable.1.to-draw in
    record { to_list = (_, (given.drawable, given.passed.apart)); no_lists = c.requires.in_bounds.1 }

pub returns-then-rules_left-gt0 : goal.returns-then-rules_left-gt0
returns-then-rules_left-gt0 c =
    λ rs given.
    let told = c.draw_rules.ensures _ (given.to-draw.drawable, given.to-draw.passed.apart) in
    let held = listing-held _ _ _ _ _ _ _ told _ c.in-Ok.is in
    left-refused rs _ _ _ given.to-draw.passed.apart (boxes-few _ _ _ _ _ _ _ _ _ _ given.to-draw) held.0
    (omega (arith, c.if-rules_left-gt0.true, given.counted, given.to-draw.times.all-states)) c.refused-then-rules_left-gt0.ensures

pub look-requires : goal.look-requires
look-requires c =
    let given = c.requires.lookable.1.to-draw in
    let held = listing-held _ _ _ _ _ _ _ (c.draw_rules.ensures _ (given.drawable, given.passed.apart)) _ c.in-Ok.is in
    record { by_index = (_, _, given.times, held.1); in_bounds = c.requires.in_bounds.0 }

pub returns-in-Err : goal.returns-in-Err
returns-in-Err c =
    λ rs given.
    let told = c.draw_rules.ensures _ (given.to-draw.drawable, given.to-draw.passed.apart) in
    list-refused rs _ _ _ given.to-draw.passed.apart (boxes-few _ _ _ _ _ _ _ _ _ _ given.to-draw) _ _
    (listing-refused _ _ _ _ _ _ _ told _ c.in-Err.is) c.refused.ensures

pub returns-else-rules_left-gt0 : goal.returns-else-rules_left-gt0
returns-else-rules_left-gt0 c =
    λ rs given.
    let told = c.draw_rules.ensures _ (given.to-draw.drawable, given.to-draw.passed.apart) in
    let held = listing-held _ _ _ _ _ _ _ told _ c.in-Ok.is in
    state-found rs _ _ _ given.to-draw.passed.apart (boxes-few _ _ _ _ _ _ _ _ _ _ given.to-draw) held.0
    (omega (arith, c.if-rules_left-gt0.false, given.counted, given.to-draw.times.all-states))
    (c.numbers_of.ensures ∙ c.look.ensures _ _ given.to-draw.times held.1)
