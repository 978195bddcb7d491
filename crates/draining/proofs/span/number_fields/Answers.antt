-- `draining::span::number_fields` meets its contract: a span that was read has a number of its own.
use mathlib.Core.Path.{◌≡◌, ap, ◌∙◌}
use mathlib.Core.Bool.{cond}
use borrow.Author.Rules.{rules}
use native.Mathlib.Omega.{arith}
use Rattle.definition.proofs.Items.{span-faithful}
use Rattle.definition.proofs.SheetRead.{carried}
use Rattle.field.proofs.Bytes.{known_bytes}
use Rattle.item.specs.Answer.{as_time, as_span}
use Rattle.codes.proofs.Carried.{time-below, span-carried}
use Rattle.canonical_date.proofs.Saying.{ok-got, ok-refused}
use Rattle.draining.specs.Span.{number_of}
use Rattle.draining.proofs.SpanReturns.{bit_below, number-goes, number-stops}
use Rattle.draining.proofs.span.number_fields.Goals as goal

pub returns-in_err-span : goal.returns-in_err-span
returns-in_err-span c =
    let read = ok-refused as_span c.span_at.result c.span_at.ensures c.in_err-span.ensures.value in
    ap number_of c.from_residual.ensures ∙ number-stops _ _ _ _ read.1.1

pub time_number-first-requires : goal.time_number-first-requires
time_number-first-requires c =
    let s = c.args.sheet.now in
    let read = ok-got as_span c.span_at.result _ _ c.span_at.ensures c.in_ok-span.ensures.value in
    (span-carried _ (carried span-faithful s (known_bytes s (λ j. omega (arith, c.type_inv.sheet j))) _ _ _ read)).starts

pub time_number-last-requires : goal.time_number-last-requires
time_number-last-requires c =
    let s = c.args.sheet.now in
    let read = ok-got as_span c.span_at.result _ _ c.span_at.ensures c.in_ok-span.ensures.value in
    (span-carried _ (carried span-faithful s (known_bytes s (λ j. omega (arith, c.type_inv.sheet j))) _ _ _ read)).ends

pub repeats_number-requires : goal.repeats_number-requires
repeats_number-requires c =
    let s = c.args.sheet.now in
    let read = ok-got as_span c.span_at.result _ _ c.span_at.ensures c.in_ok-span.ensures.value in
    omega (arith, (span-carried _ (carried span-faithful s (known_bytes s (λ j. omega (arith, c.type_inv.sheet j))) _ _ _ read)).few)

pub span-number-requires : goal.span-number-requires
span-number-requires c =
    let s = c.args.sheet.now in
    let read = ok-got as_span c.span_at.result _ _ c.span_at.ensures c.in_ok-span.ensures.value in
    let bit : c.from-open_end.result ≡ cond c.in_ok-span.span.open_end 1 0 = search rules in
    let x = span-carried _ (carried span-faithful s (known_bytes s (λ j. omega (arith, c.type_inv.sheet j))) _ _ _ read) in
    let first = time-below (as_time c.in_ok-span.span.start) x.starts in
    let last = time-below (as_time c.in_ok-span.span.end) x.ends in (
      omega (arith, first, c.time_number-first.ensures),
      omega (arith, last, c.time_number-last.ensures),
      bit_below c.in_ok-span.span.open_end _ bit,
      omega (arith, x.few, c.repeats_number.ensures),
    )

pub returns : goal.returns
returns c =
    let bit : c.from-open_end.result ≡ cond c.in_ok-span.span.open_end 1 0 = search rules in
    number-goes _ _ (as_span c.in_ok-span.span) _ _ _ _ _ _ (ok-got as_span c.span_at.result _ _ c.span_at.ensures c.in_ok-span.ensures.value)
    c.time_number-first.ensures c.time_number-last.ensures bit c.repeats_number.ensures c.span-number.ensures
