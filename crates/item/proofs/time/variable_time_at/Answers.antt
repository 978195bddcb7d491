-- `item::time::variable_time_at` meets its contract: two fields, one behind the other.
use mathlib.Core.Path.{sym}
use native.Mathlib.Omega.{arith}
use Rattle.definition.proofs.Reading.{field_end, then-goes, then-stops, then-stops-later, via-goes, via-stops}
use Rattle.answers.proofs.Passing.{passed_on}
use Rattle.item.proofs.time.variable_time_at.Goals as goal

pub take_at-requires-2 : goal.take_at-requires-2
take_at-requires-2 c = (omega arith, omega (arith, field_end _ _ _ _ _ _ _ (sym c.in_ok-event.ensures)))

pub returns-in_err-event : goal.returns-in_err-event
returns-in_err-event c = passed_on _ _ _ _ c.from_residual.ensures.1 (via-stops _ _ _ _ _ (then-stops _ _ _ _ (sym c.in_err-event.ensures)))

pub returns-in_err-offset : goal.returns-in_err-offset
returns-in_err-offset c =
    passed_on _ _ _ _ c.from_residual-in_err-offset.ensures.1 (via-stops _ _ _ _ _
    (then-stops-later _ _ _ _ (sym c.in_ok-event.ensures) (sym c.in_err-offset.ensures)))

pub returns : goal.returns
returns c = sym (via-goes _ _ _ _ _ (then-goes _ _ _ _ (sym c.in_ok-event.ensures) (sym c.in_ok-offset.ensures)))
