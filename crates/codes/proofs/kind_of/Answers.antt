-- `codes::kind_of` meets its contract.
use mathlib.Core.Path.{sym}
use Rattle.codes.proofs.Numbers.{kind-number}
use Rattle.codes.proofs.kind_of.Goals as goal

pub returns : goal.returns
returns c =
    sym (kind-number _)
