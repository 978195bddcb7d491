-- `stopping::part::of_days` meets its contract.
use mathlib.Core.Path.{sym, ap, ◌∙◌}
use mathlib.Core.Bool.{cond}
use borrow.Author.Tests.{ne_eqb}
use Rattle.stopping.proofs.Items.{days-stand}
use Rattle.stopping.proofs.part.of_days.Goals as goal

pub returns-then-offset-ne0 : goal.returns-then-offset-ne0
returns-then-offset-ne0 c = sym (rw (ne_eqb _ 0 c.if-offset-ne0.true))

pub returns-then-every_week : goal.returns-then-every_week
returns-then-every_week c =
    let a = c.args in
    sym (days-stand a.offset a.from_start a.from_end _ c.if-offset-ne0.false c.every_week.ensures ∙ ap (λ b. cond b 0 8) c.if-every_week.true)

pub returns-else-every_week : goal.returns-else-every_week
returns-else-every_week c =
    let a = c.args in
    sym (days-stand a.offset a.from_start a.from_end _ c.if-offset-ne0.false c.every_week.ensures ∙ ap (λ b. cond b 0 8) c.if-every_week.false)
