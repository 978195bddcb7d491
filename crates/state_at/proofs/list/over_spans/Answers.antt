-- `state_at::list::over_spans` meets its contract.
use Rattle.std.proofs.Common.{sym, ◌∙◌}
use Rattle.state_at.proofs.Walk.{spans_on, spans-unsettled, spans-end}
use Rattle.state_at.proofs.list.over_spans.Goals as goal

pub returns-then-not-is_simple : goal.returns-then-not-is_simple
returns-then-not-is_simple c =
    spans-unsettled _ _ _ _ _ c.loop-span-test.true (sym c.is_simple.ensures ∙ c.if-not-is_simple.true) ∙ c.loop-span.invariant

pub loop-span-preserved : goal.loop-span-preserved
loop-span-preserved c =
    spans_on _ _ _ _ _ c.loop-span-test.true (sym c.is_simple.ensures ∙ c.if-not-is_simple.false) _ c.after_span-shown.ensures ∙ c.loop-span.invariant

pub returns : goal.returns
returns c =
    spans-end _ _ _ _ _ c.loop-span-test.false ∙ c.loop-span.invariant
