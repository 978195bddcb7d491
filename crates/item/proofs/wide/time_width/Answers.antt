-- `item::wide::time_width` meets its contract: the tag, and what it asks for.
use mathlib.Core.Path.{sym, ◌∙◌, subst}
use Prim.Native.Nat.{◌≤◌}
use native.Mathlib.Omega.{arith}
use Rattle.item.proofs.Parts.{wide-fixed, wide-variable}
use Rattle.item.proofs.wide.time_width.Goals as goal

pub returns-then-part-ne0 : goal.returns-then-part-ne0
returns-then-part-ne0 c = (omega arith, λ s p wide. wide-variable wide (λ e. c.if-part-ne0.true (c.part.ensures ∙ e)))

pub returns-then-part-le2880 : goal.returns-then-part-le2880
returns-then-part-le2880 c =
    (omega arith, λ s p wide. wide-fixed wide (sym c.part.ensures ∙ c.if-part-ne0.false) (subst (◌≤ 2880) c.part-else-part-ne0.ensures c.if-part-le2880.true))
