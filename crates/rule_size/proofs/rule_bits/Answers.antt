-- `rule_size::rule_bits` meets its contract.
use mathlib.Core.Path.{sym, ap, ◌∙◌}
use Prim.Native.Nat.{◌+◌}
use native.Mathlib.Omega.{arith}
use Rattle.rule_size.proofs.Sizes.{rule-size}
use Rattle.rule_size.proofs.rule_bits.Goals as goal

pub overflow_add-result : goal.overflow_add-result
overflow_add-result c = omega (arith, c.head_width.ensures.1, c.rows_bits.ensures.1)

pub overflow_add-result-2 : goal.overflow_add-result-2
overflow_add-result-2 c = omega (arith, c.head_width.ensures.1, c.rows_bits.ensures.1, c.spans_bits.ensures.1, c.requires.span_count_in_bounds)

pub returns : goal.returns
returns c =
    let a = c.args in
    let head = c.head_width.ensures in
    let rows = c.rows_bits.ensures in
    let times = c.spans_bits.ensures in (
      λ operator state ends h.
          rule-size _ operator state ends a.item_counts.now a.spans.now _ _ h (rows.0 ends h) times.0
          ∙ ap (λ w. w + c.rows_bits.result + c.spans_bits.result) (sym head.0),
      omega (arith, head.1, rows.1, times.1, c.requires.span_count_in_bounds),
    )
