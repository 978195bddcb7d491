-- `item::wide::lawful_weekdays` meets its contract: the tag, and two lawful fields behind it.
use mathlib.Core.Path.{sym, ◌∙◌}
use borrow.Author.Tests.{eqb-true}
use Rattle.definition.specs.Rule.{weekday_bounds}
use Rattle.item.proofs.Parts.{kept, wide-weekdays}
use Rattle.item.proofs.wide.lawful_weekdays.Goals.{then-part-eq0, else-part-eq0}
use Rattle.item.proofs.wide.lawful_weekdays.Goals as goal

pub returns-then-inside : goal.returns-then-inside
returns-then-inside c t s p wide = elim c.if-part-eq0.branch [
  | then-part-eq0 w ↦
      wide-weekdays wide (sym c.part.ensures ∙ w.if-part-eq0.true)
      (kept weekday_bounds w.inside.ensures w.part-then-part-eq0.ensures (sym w.value-is ∙ c.if-inside.true))
      (kept weekday_bounds c.inside-then-inside.ensures c.part-then-inside.ensures t)
  | else-part-eq0 w ↦ absurd (w.if-part-eq0.false (eqb-true c.part.result 0 (sym w.value-is ∙ c.if-inside.true)))
]
