-- `item::wide::simple_span` meets its contract: both tags and the flag are 0, and the minutes lawful.
use mathlib.Core.Path.{sym, ◌∙◌, subst}
use mathlib.Core.Bool.{false≢true}
use Prim.Native.Nat.{◌≤◌}
use borrow.Author.Tests.{eqb-true, leb-true}
use Rattle.item.proofs.Parts.{wide-simple}
use Rattle.item.proofs.wide.simple_span.Goals.{then-part-eq0, else-part-eq0, then-part-eq0-2, else-part-eq0-2, then-part-eq0-3, else-part-eq0-3}
use Rattle.item.proofs.wide.simple_span.Goals as goal

pub returns-then-part-le2880 : goal.returns-then-part-le2880
returns-then-part-le2880 c t s p wide = elim c.if-part-eq0-3.branch [
  | then-part-eq0-3 z ↦ elim c.if-part-eq0-2.branch [
    | then-part-eq0-2 y ↦ elim c.if-part-eq0.branch [
      | then-part-eq0 x ↦
          wide-simple wide (sym c.part.ensures ∙ x.if-part-eq0.true)
          (sym x.part-then-part-eq0.ensures ∙ eqb-true x.part-then-part-eq0.result 0 (sym x.value-is ∙ y.if-part-eq0-2.true))
          (sym y.part-then-part-eq0-2.ensures ∙ eqb-true y.part-then-part-eq0-2.result 0 (sym y.value-is ∙ z.if-part-eq0-3.true))
          (subst (◌≤ 2880) z.part-then-part-eq0-3.ensures (leb-true z.part-then-part-eq0-3.result 2880 (sym z.value-is ∙ c.if-part-le2880.true)))
          (subst (◌≤ 2880) c.part-then-part-le2880.ensures (leb-true c.part-then-part-le2880.result 2880 t))
      | else-part-eq0 x ↦ absurd (x.if-part-eq0.false (eqb-true c.part.result 0 (sym x.value-is ∙ y.if-part-eq0-2.true)))
    ]
    | else-part-eq0-2 y ↦ absurd (false≢true (sym y.if-part-eq0-2.false ∙ sym y.value-is ∙ z.if-part-eq0-3.true))
  ]
  | else-part-eq0-3 z ↦ absurd (false≢true (sym z.if-part-eq0-3.false ∙ sym z.value-is ∙ c.if-part-le2880.true))
]
