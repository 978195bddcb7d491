-- `item::wide::is_dated` meets its contract: the tag.
use mathlib.Core.Path.{sym, ◌∙◌}
use borrow.Author.Tests.{eqb-true}
use Rattle.item.proofs.Parts.{wide-dated}
use Rattle.item.proofs.wide.is_dated.Goals as goal

pub returns : goal.returns
returns c t s p wide = wide-dated wide (sym c.part.ensures ∙ eqb-true c.part.result 2 t)
