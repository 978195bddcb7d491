-- `draw_rules::settle::settle` meets its contract: few lists stay as they are, and of more the boxes' own stay.
use Rattle.draw_rules.proofs.Settling.{settled-few, settled-reclaimed}
use Rattle.draw_rules.proofs.settle.settle.Goals as goal

pub returns-then-used-most : goal.returns-then-used-most
returns-then-used-most c =
    let pre = c.requires in
    settled-few _ _ _ _ pre.store.0 pre.most_le_held_limit.0 c.if-used-most.true _ pre.store.3

pub returns : goal.returns
returns c =
    let pre = c.requires in
    settled-reclaimed _ _ _ _ pre.store.0 pre.most_le_held_limit.0 pre.most_le_held_limit.1 _ _ _ _ c.reclaim.ensures
