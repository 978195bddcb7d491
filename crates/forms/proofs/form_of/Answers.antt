-- `forms::form_of` meets its contract.
use native.Mathlib.Omega.{arith}
use Rattle.forms.proofs.Numbers.{names-one, names-two, names-none}
use Rattle.forms.proofs.form_of.Goals as goal

pub returns-in-1 : goal.returns-in-1
returns-in-1 c =
    names-one _ (omega arith)

pub returns-in-2 : goal.returns-in-2
returns-in-2 c =
    names-two _ (omega arith)

pub returns-in_default : goal.returns-in_default
returns-in_default c =
    names-none _ (λ e. omega arith) (λ e. omega arith)
