-- `item::wide::is_holiday` meets its contract: the tag.
use mathlib.Core.Path.{◌∙◌}
use lib.Dec.{eqb}
use borrow.Author.Tests.{eqb-false, not-true}
use Rattle.item.proofs.Parts.{wide-holiday}
use Rattle.item.proofs.wide.is_holiday.Goals as goal

pub returns : goal.returns
returns c t s p wide = wide-holiday wide (λ e. eqb-false c.part.result 0 (not-true (eqb c.part.result 0) t) (c.part.ensures ∙ e))
