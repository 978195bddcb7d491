-- `draw_rules::draw_row` meets its contract: the rule's rows of the tables are lent.
use Rattle.draw_rules.proofs.Tables.{lent-lawful, lent-drew}
use Rattle.draw_rules.proofs.draw_row.Goals as goal

pub draw_rule-requires : goal.draw_rule-requires
draw_rule-requires c =
    let pre = c.requires in
    record { ready = pre.ready; lawful = lent-lawful _ _ _ _ _ c.args.rule pre.lawful; node = pre.node }

pub returns : goal.returns
returns c =
    let r = c.args.days in
    let k = c.args.cuts in
    lent-drew k.sizes.now r.range_counts.now k.row_starts.now k.cuts.now r.ranges.now c.args.rule _ _ _ _ _ _ _ _ _ c.draw_rule.ensures
