-- `sheet::end::items_end` meets its contract: a number says what the sort says that it names.
use mathlib.Core.Path.{ap, ◌∙◌}
use Rattle.item.specs.Sort.{named}
use Rattle.sheet.proofs.Ends.{skip-named}
use Rattle.sheet.proofs.end.items_end.Goals as goal

pub returns : goal.returns
returns c = c.row_end.ensures ∙ skip-named _ _ _ _ _ (c.from-2.ensures ∙ ap named c.from.ensures)
