-- `rule_size::spans_bits` meets its contract. The loop's invariant: the spans passed take so many bits, and those left take the rest.
use native.Mathlib.Omega.{arith}
use Rattle.rule_size.proofs.Sizes.{no-spans, spans-size}
use Rattle.rule_size.proofs.spans_bits.Goals as goal

pub overflow_add-bits : goal.overflow_add-bits
overflow_add-bits c = omega (arith, c.loop-span.invariant.low, c.span_bits-bits.ensures.1)

pub loop-span-preserved : goal.loop-span-preserved
loop-span-preserved c =
    let loop = c.loop-span in record {
      size = omega (arith, loop.invariant.size, spans-size c.args.spans.now loop.span-index (omega arith) _ c.span_bits-bits.ensures.0);
      low = omega (arith, loop.invariant.low, c.span_bits-bits.ensures.1);
    }

pub returns : goal.returns
returns c =
    let loop = c.loop-span in
    (omega (arith, loop.invariant.size, no-spans c.args.spans.now loop.span-index (omega arith)), omega (arith, loop.invariant.low))
