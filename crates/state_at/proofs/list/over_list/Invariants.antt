-- `state_at::list::over_list`: the rules that are left, from the state shown so far, give what all give from plain Closed.
use Rattle.std.proofs.Common.{◌≡◌, drop}
use Rattle.codes.specs.Number.{closed_number}
use Rattle.state_at.specs.Found.{over_list}
use Rattle.state_at.proofs.list.over_list.Given as goal

abbrev pub invariant-loop-rule : goal.invariant-loop-rule
invariant-loop-rule l = over_list l.states l.span_counts l.spans l.minute l.shown (drop l.rule-index l.rules) ≡ over_list l.states l.span_counts l.spans l.minute closed_number l.rules
