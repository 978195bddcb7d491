-- `item::time::repeats_at` meets its contract: a flag and, if it is set, the minutes.
use mathlib.Core.Path.{sym}
use native.Mathlib.Omega.{arith}
use borrow.Author.Tests.{eq-eqb, ne_eqb}
use Rattle.definition.specs.Sheet.{repeats_layout}
use Rattle.definition.proofs.Reading.{field_end, tagged-goes, tagged-stops}
use Rattle.answers.proofs.Passing.{passed_on}
use Rattle.item.proofs.Spans.{no-repeats, repeats-goes, repeats-stops}
use Rattle.item.proofs.time.repeats_at.Goals as goal

pub returns-in_err-flag : goal.returns-in_err-flag
unfolding repeats_layout
returns-in_err-flag c = passed_on _ _ _ _ c.from_residual.ensures.1 (tagged-stops _ _ _ _ _ (sym c.in_err-flag.ensures))

pub returns-then-flag-eq0 : goal.returns-then-flag-eq0
unfolding repeats_layout
returns-then-flag-eq0 c = sym (tagged-goes _ _ _ _ _ (sym c.in_ok-flag.ensures) (no-repeats _ _ _ (eq-eqb c.in_ok-flag.flag 0 (omega arith))))

pub take_at-requires-2 : goal.take_at-requires-2
take_at-requires-2 c = (omega arith, omega (arith, field_end _ _ _ _ _ _ _ (sym c.in_ok-flag.ensures)))

pub returns-in_err-minutes : goal.returns-in_err-minutes
unfolding repeats_layout
returns-in_err-minutes c =
    passed_on _ _ _ _ c.from_residual-in_err-minutes.ensures.1
    (tagged-goes _ _ _ _ _ (sym c.in_ok-flag.ensures)
    (repeats-stops _ _ _ _ _ (ne_eqb c.in_ok-flag.flag 0 (omega arith)) (sym c.in_err-minutes.ensures)))

pub returns : goal.returns
unfolding repeats_layout
returns c =
    sym
    (tagged-goes _ _ _ _ _ (sym c.in_ok-flag.ensures)
    (repeats-goes _ _ _ _ _ (ne_eqb c.in_ok-flag.flag 0 (omega arith)) (sym c.in_ok-minutes.ensures)))
