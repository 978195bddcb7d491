-- `codes::title::state_number` meets its contract.
use Rattle.std.proofs.Common.{arith, ap}
use Rattle.definition.specs.Rule.{kind_number}
use Rattle.codes.specs.Number.{state_number}
use Rattle.codes.proofs.title.state_number.Goals as goal

pub returns-in-Open : goal.returns-in-Open
unfolding state_number
returns-in-Open c = omega (arith, ap kind_number c.in-Open.ensures)

pub returns-in-Closed : goal.returns-in-Closed
unfolding state_number
returns-in-Closed c = omega (arith, ap kind_number c.in-Closed.ensures)

pub returns-in-Unknown : goal.returns-in-Unknown
unfolding state_number
returns-in-Unknown c = omega (arith, ap kind_number c.in-Unknown.ensures)
