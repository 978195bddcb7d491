-- `state_at::list::over_spans`: the spans that are left, from the state shown so far, give what all give from the first.
use Rattle.std.proofs.Common.{◌≡◌, drop}
use Rattle.state_at.specs.Found.{over_spans}
use Rattle.state_at.proofs.list.over_spans.Given as goal

abbrev pub invariant-loop-span : goal.invariant-loop-span
invariant-loop-span l = over_spans l.minute l.state l.shown (drop l.span-index l.spans) ≡ over_spans l.minute l.state l.before l.spans
