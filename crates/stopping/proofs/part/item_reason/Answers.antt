-- `stopping::part::item_reason` meets its contract: a number says what the sort says that it names.
use mathlib.Core.Path.{◌∙◌}
use Rattle.item.proofs.Sorts.{of-named}
use Rattle.stopping.proofs.part.item_reason.Goals as goal

pub returns : goal.returns
returns c = c.reason_of_item.ensures ∙ of-named _ _ _ _ _ _ _ _ _ c.from.ensures
