-- `canonical_date::canonical::bounds` meets its contract: the bounds of each sort.
use mathlib.Core.Path.{◌∙◌}
use native.Mathlib.Omega.{arith}
use borrow.Author.Tests.{eq-eqb, ne_eqb}
use Rattle.canonical_date.proofs.Saying.{in-years, in-months, in-weeks, in-weekdays}
use Rattle.canonical_date.proofs.canonical.bounds.Goals as goal

pub returns-in-0 : goal.returns-in-0
returns-in-0 c =
    c.bounds.ensures ∙ in-years _ (eq-eqb c.args.sort 0 (omega arith))

pub returns-in-1 : goal.returns-in-1
returns-in-1 c =
    c.bounds-in-1.ensures ∙ in-months _ (ne_eqb c.args.sort 0 (omega arith)) (eq-eqb c.args.sort 1 (omega arith))

pub returns-in-2 : goal.returns-in-2
returns-in-2 c =
    c.bounds-in-2.ensures ∙ in-weeks _ (ne_eqb c.args.sort 0 (omega arith)) (ne_eqb c.args.sort 1 (omega arith)) (eq-eqb c.args.sort 2 (omega arith))

pub returns-in_default : goal.returns-in_default
returns-in_default c =
    c.bounds-in_default.ensures ∙ in-weekdays _ (ne_eqb c.args.sort 0 (omega arith)) (ne_eqb c.args.sort 1 (omega arith)) (ne_eqb c.args.sort 2 (omega arith))
