-- `lookup::look_rules` meets its contract: 8 where there is no such date or minute, else what is answered for the date's point.
use Rattle.std.proofs.Common.{sym, ap, ◌∙◌, leb-true, leb-false}
use Rattle.state_at.proofs.Date.{point-dated, point-missing}
use Rattle.lookup.specs.Looks.{look_at}
use Rattle.lookup.proofs.Cases.{look-no-date, look-no-minute, look-dated}
use Rattle.lookup.proofs.look_rules.Goals as goal

pub returns-then-past_midnight : goal.returns-then-past_midnight
returns-then-past_midnight c =
    let args = c.args in
    let read = c.requires.1.1.0.read in
    c.refused.ensures
    ∙ sym (look-no-minute _ args.sheet.now args.year args.month args.day args.minute _ _ read
    (leb-true _ _ (sym c.past_midnight.ensures ∙ c.if-past_midnight.true)))

pub returns-in_default : goal.returns-in_default
returns-in_default c =
    let args = c.args in
    let read = c.requires.1.1.0.read in
    c.refused-in_default.ensures
    ∙ sym (look-no-date _ args.sheet.now args.year args.month args.day args.minute _ _ read (point-missing _ _ _ c.in_default.ensures))

pub look_moment-requires-clause-in_bounds : goal.look_moment-requires-clause-in_bounds
look_moment-requires-clause-in_bounds c =
    (point-dated _ _ _ _ c.in-Some.ensures).2

pub returns : goal.returns
returns c =
    let args = c.args in
    let rules = c.requires in
    let point = point-dated _ _ _ _ c.in-Some.ensures in
    c.look_moment.ensures _ _ rules.1.1.0 rules.1.1.1 ∙ ap (λ p. look_at rules.0 p args.minute) point.1
    ∙ sym (look-dated _ args.sheet.now args.year args.month args.day args.minute _ _ rules.1.1.0.read point.0
    (leb-false _ _ (sym c.past_midnight.ensures ∙ c.if-past_midnight.false)))
