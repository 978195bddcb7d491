-- `rule_size::time_bits` meets its contract, fixed and variable.
use native.Mathlib.Omega.{arith}
use Rattle.rule_size.proofs.Sizes.{fixed-size, variable-size}
use Rattle.rule_size.proofs.time_bits.Goals as goal

pub returns-then-number-lt262144 : goal.returns-then-number-lt262144
returns-then-number-lt262144 c = (fixed-size c.args.number c.if-number-lt262144.true, omega arith)

pub returns-else-number-lt262144 : goal.returns-else-number-lt262144
returns-else-number-lt262144 c = (variable-size c.args.number c.if-number-lt262144.false, omega arith)
