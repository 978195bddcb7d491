-- `draw_rule::runs::find_run` meets its contract.
use Rattle.tables.proofs.Narrowing.{rising-later}
use Rattle.draw_rule.proofs.Finding.{placed}
use Rattle.draw_rule.proofs.runs.find_run.Goals as goal

pub place_in-stop-requires : goal.place_in-stop-requires
place_in-stop-requires c =
    let pre = c.requires in
    record { first_le_end = (c.place_in-begin.ensures.to_end, pre.first_le_end.1); rising = rising-later c.args.cuts.now _ _ _ c.place_in-begin.ensures.from_first pre.rising }

pub returns : goal.returns
returns c =
    placed c.requires.at_in_bounds.0 c.place_in-begin.ensures c.place_in-stop.ensures
