-- `field::tested_at` meets its contract.
use mathlib.Core.Path.{sym, ◌∙◌}
use native.Mathlib.Omega.{arith}
use Rattle.answers.proofs.Passing.{passed_on}
use Rattle.field.proofs.Taking.{test-passed, test-failed, tested-refused}
use Rattle.field.proofs.tested_at.Goals as goal

pub returns-in_err-value : goal.returns-in_err-value
returns-in_err-value g c ok t = passed_on _ _ _ _ c.from_residual.ensures.1 (tested-refused _ ok _ _ _ _ _ (sym c.in_err-value.ensures))

pub returns-then-passes : goal.returns-then-passes
returns-then-passes g c ok t =
    test-passed _ ok _ _ _ c.in_ok-value.ensures (sym (t c.in_ok-value.value (omega arith) c.passes.result c.passes.ensures) ∙ c.if-passes.true)

pub returns : goal.returns
returns g c ok t =
    test-failed _ ok _ _ _ c.in_ok-value.ensures (sym (t c.in_ok-value.value (omega arith) c.passes.result c.passes.ensures) ∙ c.if-passes.false)
