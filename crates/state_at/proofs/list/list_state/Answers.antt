-- `state_at::list::list_state` meets its contract, by the law of the state at a minute.
use Rattle.std.proofs.Common.{arith}
use Rattle.state_at.proofs.Meaning.{list-ready, list-answered}
use Rattle.state_at.proofs.list.list_state.Goals as goal

pub over_list-requires : goal.over_list-requires
over_list-requires c =
    let p = c.requires in list-ready _ _ _ p.rule_times.0 p.rule_times.1 _ _ _ p.rule_times.2 c.from.ensures (omega (arith, c.from.ensures, p.list_places_in_bounds))

pub returns : goal.returns
returns c =
    λ rs tables named. list-answered _ _ _ rs tables _ _ _ named c.from.ensures (omega (arith, c.from.ensures, c.requires.list_places_in_bounds)) _ _ c.over_list.ensures
