-- `item::wide::span_width` meets its contract: two times, one behind the other, and the flags behind them.
use mathlib.Core.Path.{sym, ◌∙◌}
use native.Mathlib.Omega.{arith}
use Rattle.item.proofs.Parts.{wide-span, wide-repeats}
use Rattle.item.proofs.wide.span_width.Goals as goal

pub returns-then-part-eq0 : goal.returns-then-part-eq0
returns-then-part-eq0 c =
    let first = c.in_ok-first.ensures in
    let second = c.in_ok-second.ensures in (
      omega arith,
      λ s p wide. wide-span wide c.in_ok-first.first c.in_ok-second.second first.0 second.0 _ _ c.part.ensures c.part-2.ensures first.1 second.1
          (sym c.part-3.ensures ∙ c.if-part-eq0.true),
    )

pub returns-else-part-eq0 : goal.returns-else-part-eq0
returns-else-part-eq0 c =
    let first = c.in_ok-first.ensures in
    let second = c.in_ok-second.ensures in (
      omega arith,
      λ s p wide. wide-repeats wide c.in_ok-first.first c.in_ok-second.second first.0 second.0 _ _ c.part.ensures c.part-2.ensures first.1 second.1
          (λ e. c.if-part-eq0.false (c.part-3.ensures ∙ e)),
    )
