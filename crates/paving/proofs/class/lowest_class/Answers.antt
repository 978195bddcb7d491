-- `paving::class::lowest_class` meets its contract.
use native.Mathlib.Omega.{arith}
use Rattle.paving.proofs.Classes.{lowest-first, lowest-third, lowest-last}
use Rattle.paving.proofs.class.lowest_class.Goals as goal

pub returns-in-3 : goal.returns-in-3
returns-in-3 c =
    lowest-third _ (omega arith) (omega arith)

pub returns-in_default : goal.returns-in_default
returns-in_default c =
    lowest-first _ (omega arith)

pub returns-in_default-2 : goal.returns-in_default-2
returns-in_default-2 c =
    lowest-last _ (omega arith) (omega arith)
