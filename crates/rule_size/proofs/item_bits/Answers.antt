-- `rule_size::item_bits` meets its contract, sort by sort.
use native.Mathlib.Omega.{arith}
use Rattle.rule_size.proofs.Sizes.{years-size, months-size, weeks-size, weekdays-size}
use Rattle.rule_size.proofs.item_bits.Goals as goal

pub returns-in-0 : goal.returns-in-0
returns-in-0 c = (λ e. years-size c.args.sort e (omega arith), omega arith)

pub returns-in-1 : goal.returns-in-1
returns-in-1 c = (λ e. months-size c.args.sort e (omega arith), omega arith)

pub returns-in-2 : goal.returns-in-2
returns-in-2 c = (λ e. weeks-size c.args.sort e (omega arith), omega arith)

pub returns-in_default : goal.returns-in_default
returns-in_default c = (λ e. weekdays-size c.args.sort e (omega arith), omega arith)
