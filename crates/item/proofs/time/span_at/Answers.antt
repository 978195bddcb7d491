-- `item::time::span_at` meets its contract: two times, a flag and repeats, one behind the other.
use mathlib.Core.Path.{sym}
use native.Mathlib.Omega.{arith}
use Rattle.definition.specs.Sheet.{span}
use Rattle.definition.proofs.Reading.{field_end, then-goes, then-stops, then-stops-later, via-goes, via-stops}
use Rattle.definition.proofs.Lengths.{time-short}
use Rattle.answers.proofs.Passing.{passed_on}
use Rattle.item.proofs.time.span_at.Goals as goal

pub time_at-requires-2 : goal.time_at-requires-2
time_at-requires-2 c = omega (arith, (time-short _ _ _ _ (sym c.in_ok-start.ensures)).1)

pub take_at-requires : goal.take_at-requires
take_at-requires c = (
  omega arith,
  omega (
    arith,
    (time-short _ _ _ _ (sym c.in_ok-start.ensures)).1,
    (time-short _ _ _ _ (sym c.in_ok-end.ensures)).1,
  ),
)

pub repeats_at-requires : goal.repeats_at-requires
repeats_at-requires c = omega (
  arith,
  (time-short _ _ _ _ (sym c.in_ok-start.ensures)).1,
  (time-short _ _ _ _ (sym c.in_ok-end.ensures)).1,
  field_end _ _ _ _ _ _ _ (sym c.in_ok-open_end.ensures),
)

pub returns-in_err-start : goal.returns-in_err-start
unfolding span
returns-in_err-start c = passed_on _ _ _ _ c.from_residual.ensures.1 (via-stops _ _ _ _ _ (then-stops _ _ _ _ (sym c.in_err-start.ensures)))

pub returns-in_err-end : goal.returns-in_err-end
unfolding span
returns-in_err-end c =
    passed_on _ _ _ _ c.from_residual-in_err-end.ensures.1 (via-stops _ _ _ _ _ (then-stops-later _ _ _ _ (sym c.in_ok-start.ensures)
    (then-stops _ _ _ _ (sym c.in_err-end.ensures))))

pub returns-in_err-open_end : goal.returns-in_err-open_end
unfolding span
returns-in_err-open_end c =
    passed_on _ _ _ _ c.from_residual-in_err-open_end.ensures.1 (via-stops _ _ _ _ _ (then-stops-later _ _ _ _ (sym c.in_ok-start.ensures)
    (then-stops-later _ _ _ _ (sym c.in_ok-end.ensures) (then-stops _ _ _ _ (sym c.in_err-open_end.ensures)))))

pub returns-in_err-repeats : goal.returns-in_err-repeats
unfolding span
returns-in_err-repeats c =
    passed_on _ _ _ _ c.from_residual-in_err-repeats.ensures.1 (via-stops _ _ _ _ _ (then-stops-later _ _ _ _ (sym c.in_ok-start.ensures)
    (then-stops-later _ _ _ _ (sym c.in_ok-end.ensures) (then-stops-later _ _ _ _ (sym c.in_ok-open_end.ensures) (sym c.in_err-repeats.ensures)))))

pub returns : goal.returns
unfolding span
returns c =
    sym (via-goes _ _ _ _ _ (then-goes _ _ _ _ (sym c.in_ok-start.ensures) (then-goes _ _ _ _ (sym c.in_ok-end.ensures)
    (then-goes _ _ _ _ (sym c.in_ok-open_end.ensures) (sym c.in_ok-repeats.ensures)))))
