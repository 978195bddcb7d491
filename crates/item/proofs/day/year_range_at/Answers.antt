-- `item::day::year_range_at` meets its contract.
use Rattle.definition.specs.Sheet.{years_of, year_range}
use Rattle.item.proofs.Steps.{steps_via}
use Rattle.item.proofs.day.year_range_at.Goals as goal

pub returns : goal.returns
unfolding year_range
returns c = steps_via years_of _ _ _ _ _ c.steps_at.ensures
