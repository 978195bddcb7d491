-- `paving::row::is_of` meets its contract: no class has 0.
use mathlib.Core.Path.{sym}
use Rattle.paving.proofs.Sweeping.{empty-unmatched}
use Rattle.paving.proofs.row.is_of.Goals as goal

pub returns-else-value-ne0 : goal.returns-else-value-ne0
returns-else-value-ne0 c =
    let a = c.args in
    rw c.if-value-ne0.false (sym (empty-unmatched a.classes.now a.class c.requires))
