-- `rule_size::span_bits` meets its contract, without repeats and with.
use native.Mathlib.Omega.{arith}
use Rattle.rule_size.proofs.Sizes.{once-size, repeated-size}
use Rattle.rule_size.proofs.span_bits.Goals as goal

pub returns-then-number-eq0 : goal.returns-then-number-eq0
returns-then-number-eq0 c =
    let first = c.time_bits-start.ensures in
    let second = c.time_bits-end.ensures in (
      once-size c.args.number _ _ c.start_of.ensures c.end_of.ensures _ _ first.0 second.0 c.if-number-eq0.true,
      omega (arith, first.1, second.1),
    )

pub returns-else-number-eq0 : goal.returns-else-number-eq0
returns-else-number-eq0 c =
    let first = c.time_bits-start.ensures in
    let second = c.time_bits-end.ensures in (
      repeated-size c.args.number _ _ c.start_of.ensures c.end_of.ensures _ _ first.0 second.0 c.if-number-eq0.false,
      omega (arith, first.1, second.1),
    )
