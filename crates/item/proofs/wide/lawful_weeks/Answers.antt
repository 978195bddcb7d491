-- `item::wide::lawful_weeks` meets its contract.
use Rattle.definition.specs.Sheet.{week_range}
use Rattle.definition.proofs.Reading.{via-goes}
use Rattle.item.proofs.wide.lawful_weeks.Goals as goal

pub returns : goal.returns
unfolding week_range
returns c t s p wide = via-goes _ _ _ _ _ (c.lawful_steps.ensures t s p wide)
