-- `draining::span::number_at` meets its contract: the number of a simple span, made of parts of 56 bits; or of any span, field by field.
use mathlib.Core.Path.{refl, ap, ◌∙◌}
use Prim.Native.Nat.{◌/◌, ◌%◌, ◌^◌, ◌<◌}
use native.Mathlib.Omega.{arith}
use Rattle.definition.specs.Rule.{fixed}
use Rattle.codes.specs.Number.{time_number}
use Rattle.codes.proofs.Carried.{time-below}
use Rattle.draining.proofs.SpanReturns.{bit-same, number-goes}
use Rattle.draining.proofs.span.number_at.Goals as goal

pub span-number-requires : goal.span-number-requires
span-number-requires c =
    let start : c.part.result < 4096 = omega (arith, c.part.ensures) in
    let end : c.part-then-simple_span.result < 4096 = omega (arith, c.part-then-simple_span.ensures) in (
      omega (arith, c.fixed_time-first.ensures, time-below (fixed c.part.result) start),
      omega (arith, c.fixed_time-last.ensures, time-below (fixed c.part-then-simple_span.result) end),
      omega (arith, c.part-then-simple_span-2.ensures),
      omega arith,
    )

pub returns-then-simple_span : goal.returns-then-simple_span
returns-then-simple_span c =
    let bits = c.wide_at-bits.result in
    number-goes _ _ _ _ _ _ _ _ _
    (c.simple_span.ensures c.if-simple_span.true _ _ c.wide_at-bits.ensures)
    (c.fixed_time-first.ensures ∙ ap (λ m. time_number (fixed m)) c.part.ensures)
    (c.fixed_time-last.ensures ∙ ap (λ m. time_number (fixed m)) c.part-then-simple_span.ensures)
    (c.part-then-simple_span-2.ensures ∙ bit-same (bits / 2 ^ 29 % 2 ^ 1) (omega arith)) refl c.span-number.ensures
