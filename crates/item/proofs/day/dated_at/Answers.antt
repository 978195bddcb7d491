-- `item::day::dated_at` meets its contract: one field.
use mathlib.Core.Path.{sym}
use Rattle.definition.proofs.Reading.{via-goes, via-stops}
use Rattle.answers.proofs.Passing.{passed_on}
use Rattle.item.proofs.day.dated_at.Goals as goal

pub returns-in_err-reference : goal.returns-in_err-reference
returns-in_err-reference c = passed_on _ _ _ _ c.from_residual.ensures.1 (via-stops _ _ _ _ _ (sym c.in_err-reference.ensures))

pub returns : goal.returns
returns c = sym (via-goes _ _ _ _ _ (sym c.in_ok-reference.ensures))
