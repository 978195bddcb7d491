-- `plain_lists::count::too_many` meets its contract.
use mathlib.Core.Path.{sym, ◌∙◌}
use borrow.Author.Tests.{not-true}
use Rattle.plain_lists.proofs.Counting.{few-lists}
use Rattle.plain_lists.proofs.count.too_many.Goals as goal

pub returns-then-not-lists_over : goal.returns-then-not-lists_over
returns-then-not-lists_over c = few-lists _ _ (sym c.lists_over.ensures ∙ not-true _ c.if-not-lists_over.true-raw)
