-- `canonical_date::canonical::item_at` meets its contract: the item of each sort.
use mathlib.Core.Path.{◌∙◌}
use native.Mathlib.Omega.{arith}
use borrow.Author.Tests.{eq-eqb, ne_eqb}
use Rattle.canonical_date.proofs.Saying.{as-years, as-months, as-weeks, as-weekdays}
use Rattle.canonical_date.proofs.canonical.item_at.Goals as goal

pub returns-in-0 : goal.returns-in-0
returns-in-0 c =
    c.years_at.ensures ∙ as-years _ _ _ (eq-eqb c.args.sort 0 (omega arith))

pub returns-in-1 : goal.returns-in-1
returns-in-1 c =
    c.months_at.ensures ∙ as-months _ _ _ (ne_eqb c.args.sort 0 (omega arith)) (eq-eqb c.args.sort 1 (omega arith))

pub returns-in-2 : goal.returns-in-2
returns-in-2 c =
    c.weeks_at.ensures ∙ as-weeks _ _ _ (ne_eqb c.args.sort 0 (omega arith)) (ne_eqb c.args.sort 1 (omega arith)) (eq-eqb c.args.sort 2 (omega arith))

pub returns-in_default : goal.returns-in_default
returns-in_default c =
    c.weekdays_at.ensures ∙ as-weekdays _ _ _ (ne_eqb c.args.sort 0 (omega arith)) (ne_eqb c.args.sort 1 (omega arith)) (ne_eqb c.args.sort 2 (omega arith))
