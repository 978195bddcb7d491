-- `item::day::monthday_range_at` meets its contract: a tag, and the layout behind it.
use mathlib.Core.Path.{sym}
use native.Mathlib.Omega.{arith}
use borrow.Author.Tests.{eq-eqb, ne_eqb}
use Rattle.definition.specs.Sheet.{monthday_range}
use Rattle.definition.proofs.Reading.{field_end, tagged-goes, tagged-stops}
use Rattle.answers.proofs.Passing.{passed_on}
use Rattle.item.proofs.Bodies.{body, as-months, as-months-of, as-dated}
use Rattle.item.proofs.day.monthday_range_at.Goals as goal

pub months_at-requires : goal.months_at-requires
months_at-requires c = omega (arith, field_end _ _ _ _ _ _ _ (sym c.in_ok-tag.ensures))

pub months_of_at-requires : goal.months_of_at-requires
months_of_at-requires c = omega (arith, field_end _ _ _ _ _ _ _ (sym c.in_ok-tag.ensures))

pub dated_at-requires : goal.dated_at-requires
dated_at-requires c = omega (arith, field_end _ _ _ _ _ _ _ (sym c.in_ok-tag.ensures))

pub returns-in_err-tag : goal.returns-in_err-tag
unfolding monthday_range
returns-in_err-tag c = passed_on _ _ _ _ c.from_residual.ensures.1 (tagged-stops _ _ _ _ _ (sym c.in_err-tag.ensures))

pub returns-in-0 : goal.returns-in-0
unfolding monthday_range
returns-in-0 c =
    sym
    (tagged-goes _ _ _ _ _ (sym c.in_ok-tag.ensures)
    (body _ _ _ _ _ (as-months c.in_ok-tag.tag (eq-eqb c.in_ok-tag.tag 0 (omega arith))) c.months_at.ensures))

pub returns-in-1 : goal.returns-in-1
unfolding monthday_range
returns-in-1 c =
    sym
    (tagged-goes _ _ _ _ _ (sym c.in_ok-tag.ensures)
    (body _ _ _ _ _ (as-months-of c.in_ok-tag.tag (ne_eqb c.in_ok-tag.tag 0 (omega arith)) (eq-eqb c.in_ok-tag.tag 1 (omega arith))) c.months_of_at.ensures))

pub returns-in_default : goal.returns-in_default
unfolding monthday_range
returns-in_default c =
    sym
    (tagged-goes _ _ _ _ _ (sym c.in_ok-tag.ensures)
    (body _ _ _ _ _ (as-dated c.in_ok-tag.tag (ne_eqb c.in_ok-tag.tag 0 (omega arith)) (ne_eqb c.in_ok-tag.tag 1 (omega arith))) c.dated_at.ensures))
