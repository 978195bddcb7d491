-- `item::wide::lawful_years` meets its contract.
use Rattle.definition.specs.Sheet.{year_range}
use Rattle.definition.proofs.Reading.{via-goes}
use Rattle.item.proofs.wide.lawful_years.Goals as goal

pub returns : goal.returns
unfolding year_range
returns c t s p wide = via-goes _ _ _ _ _ (c.lawful_steps.ensures t s p wide)
