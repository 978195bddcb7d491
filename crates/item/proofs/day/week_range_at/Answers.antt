-- `item::day::week_range_at` meets its contract.
use Rattle.definition.specs.Sheet.{weeks_of, week_range}
use Rattle.item.proofs.Steps.{steps_via}
use Rattle.item.proofs.day.week_range_at.Goals as goal

pub returns : goal.returns
unfolding week_range
returns c = steps_via weeks_of _ _ _ _ _ c.steps_at.ensures
