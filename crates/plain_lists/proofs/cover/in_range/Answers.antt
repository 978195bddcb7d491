-- `plain_lists::cover::in_range` meets its contract.
use mathlib.Core.Path.{◌∙◌}
use Rattle.std.proofs.lemmas.Bool.{lt-leb}
use Rattle.plain_lists.proofs.Covering.{range-begun, range-ahead}
use Rattle.plain_lists.proofs.cover.in_range.Goals as goal

pub returns-then-start-value : goal.returns-then-start-value
returns-then-start-value c = range-begun _ _ _ c.if-start-value.true

pub returns-else-start-value : goal.returns-else-start-value
returns-else-start-value c = lt-leb _ _ c.if-start-value.false ∙ range-ahead _ _ _ c.if-start-value.false
