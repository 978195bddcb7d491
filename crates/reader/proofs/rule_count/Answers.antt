-- `reader::rule_count` meets its contract: the sheet's mark, tested, and the count behind it.
use mathlib.Core.Path.{sym, ◌∙◌}
use native.Mathlib.Omega.{arith}
use Rattle.definition.proofs.Reading.{field_end}
use Rattle.answers.proofs.Passing.{passed_on}
use Rattle.reader.proofs.Opening.{never_large, said, marked, unmarked, stays-refused}
use Rattle.reader.proofs.rule_count.Goals as goal

pub unwrap-requires : goal.unwrap-requires
unwrap-requires c = never_large _ _ _ c.first.ensures c.mark_width.ensures.1

pub returns-in_err-value : goal.returns-in_err-value
returns-in_err-value c =
    passed_on _ _ _ _ c.from_residual.ensures.1
    (sym (stays-refused _ _ _ c.mark_width.ensures.0 (said _ _ _ _ _ c.first.ensures c.unwrap.ensures c.in_err-value.was)))

pub rule_count_at-requires : goal.rule_count_at-requires
rule_count_at-requires c =
    omega (
      arith,
      c.mark_width.ensures.1,
      field_end _ _ _ _ _ _ _ (sym (said _ _ _ _ _ c.first.ensures c.unwrap.ensures c.in_ok-value.was)),
    )

pub returns-then-value-mark : goal.returns-then-value-mark
returns-then-value-mark c =
    c.rule_count_at.ensures
    ∙ marked _ _ _ c.mark_width.ensures.0 (said _ _ _ _ _ c.first.ensures c.unwrap.ensures c.in_ok-value.was) _ c.if-value-mark.true c.mark.ensures.0

pub returns-else-value-mark : goal.returns-else-value-mark
returns-else-value-mark c =
    unmarked _ _ _ c.mark_width.ensures.0 (said _ _ _ _ _ c.first.ensures c.unwrap.ensures c.in_ok-value.was) _ c.if-value-mark.false c.mark.ensures.0
