-- `item::time::fixed_time_at` meets its contract: one field.
use mathlib.Core.Path.{sym}
use Rattle.definition.proofs.Reading.{via-goes, via-stops}
use Rattle.answers.proofs.Passing.{passed_on}
use Rattle.item.proofs.time.fixed_time_at.Goals as goal

pub returns-in_err-minutes : goal.returns-in_err-minutes
returns-in_err-minutes c = passed_on _ _ _ _ c.from_residual.ensures.1 (via-stops _ _ _ _ _ (sym c.in_err-minutes.ensures))

pub returns : goal.returns
returns c = sym (via-goes _ _ _ _ _ (sym c.in_ok-minutes.ensures))
