-- `draw_rule::draw_rule` meets its contract.
use native.Mathlib.Omega.{arith}
use Rattle.list_store.proofs.Drawing.{making-start}
use Rattle.draw_rule.proofs.Passing.{nodes-all}
use Rattle.draw_rule.proofs.Finding.{runs-planned}
use Rattle.draw_rule.proofs.Meaning.{rule-drawn}
use Rattle.draw_rule.proofs.draw_rule.Goals as goal

pub draw_weekdays-requires : goal.draw_weekdays-requires
draw_weekdays-requires c =
    let pre = c.requires in
    let planned = runs-planned pre.lawful pre.node.dims (omega (arith, c.find_runs.auto.runs, c.no_runs-runs.ensures)) c.find_runs.ensures in
    record { making = making-start pre.ready; planned = planned; nodes = (nodes-all pre.node, omega arith) }

pub returns : goal.returns
returns c =
    let pre = c.requires in
    rule-drawn _ _ _ _ _ _ c.find_runs.ensures pre.node pre.ready c.draw_weekdays.auto.cells c.draw_weekdays.auto.lists c.draw_weekdays.ensures
