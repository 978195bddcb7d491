-- `item::wide::lawful_steps` meets its contract: its three parts are lawful fields, one behind the other.
use mathlib.Core.Path.{sym, ◌∙◌, subst}
use mathlib.Core.Bool.{false≢true}
use Prim.Native.Nat.{◌<◌}
use borrow.Author.Tests.{ltb-true}
use Rattle.item.proofs.Parts.{kept, wide-steps}
use Rattle.item.proofs.wide.lawful_steps.Goals.{then-inside, else-inside}
use Rattle.item.proofs.wide.lawful_steps.Goals as goal

pub returns-then-inside-2 : goal.returns-then-inside-2
returns-then-inside-2 c t s p wide =
    let args = c.args in
    elim c.if-inside.branch [
      | then-inside w ↦
          wide-steps wide args.width args.step_width args.bounds.now.start args.bounds.now.end c.requires
          (kept (args.bounds.now.start, args.bounds.now.end) c.inside.ensures c.part-start.ensures w.if-inside.true)
          (kept (args.bounds.now.start, args.bounds.now.end) w.inside-then-inside.ensures c.part-end.ensures (sym w.value-is ∙ c.if-inside-2.true))
          (subst (0 <◌) c.part-step.ensures (ltb-true 0 c.part-step.result t))
      | else-inside w ↦ absurd (false≢true (sym w.if-inside.false ∙ sym w.value-is ∙ c.if-inside-2.true))
    ]
