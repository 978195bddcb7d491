-- `item::day::week_day_range_at` meets its contract: a tag, and the layout behind it.
use mathlib.Core.Path.{sym}
use native.Mathlib.Omega.{arith}
use borrow.Author.Tests.{eq-eqb, ne_eqb}
use Rattle.definition.specs.Sheet.{week_day_range}
use Rattle.definition.proofs.Reading.{field_end, tagged-goes, tagged-stops}
use Rattle.answers.proofs.Passing.{passed_on}
use Rattle.item.proofs.Bodies.{body, as-fixed-days, as-holiday}
use Rattle.item.proofs.day.week_day_range_at.Goals as goal

pub fixed_days_at-requires : goal.fixed_days_at-requires
fixed_days_at-requires c = omega (arith, field_end _ _ _ _ _ _ _ (sym c.in_ok-tag.ensures))

pub holiday_at-requires : goal.holiday_at-requires
holiday_at-requires c = omega (arith, field_end _ _ _ _ _ _ _ (sym c.in_ok-tag.ensures))

pub returns-in_err-tag : goal.returns-in_err-tag
unfolding week_day_range
returns-in_err-tag c = passed_on _ _ _ _ c.from_residual.ensures.1 (tagged-stops _ _ _ _ _ (sym c.in_err-tag.ensures))

pub returns-in-0 : goal.returns-in-0
unfolding week_day_range
returns-in-0 c =
    sym
    (tagged-goes _ _ _ _ _ (sym c.in_ok-tag.ensures)
    (body _ _ _ _ _ (as-fixed-days c.in_ok-tag.tag (eq-eqb c.in_ok-tag.tag 0 (omega arith))) c.fixed_days_at.ensures))

pub returns-in_default : goal.returns-in_default
unfolding week_day_range
returns-in_default c =
    sym
    (tagged-goes _ _ _ _ _ (sym c.in_ok-tag.ensures)
    (body _ _ _ _ _ (as-holiday c.in_ok-tag.tag (ne_eqb c.in_ok-tag.tag 0 (omega arith))) c.holiday_at.ensures))
