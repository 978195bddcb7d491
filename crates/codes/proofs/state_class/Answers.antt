-- `codes::state_class` meets its contract.
use native.Mathlib.Omega.{arith}
use Rattle.codes.proofs.Laws.{plain-open, plain_closed, plain-unknown, open-class, closed-class, unknown-class}
use Rattle.codes.proofs.state_class.Goals as goal

pub returns-in-0 : goal.returns-in-0
returns-in-0 c =
    plain-open _ (omega arith)

pub returns-in-1 : goal.returns-in-1
returns-in-1 c =
    plain_closed _ (omega arith)

pub returns-in-2 : goal.returns-in-2
returns-in-2 c =
    plain-unknown _ (omega arith)

pub returns-in-0-2 : goal.returns-in-0-2
returns-in-0-2 c =
    open-class _ (omega arith) (omega arith)

pub returns-in-1-2 : goal.returns-in-1-2
returns-in-1-2 c =
    closed-class _ (omega arith) (omega arith)

pub returns-in_default-2 : goal.returns-in_default-2
returns-in_default-2 c =
    unknown-class _ (omega arith) (omega arith)
