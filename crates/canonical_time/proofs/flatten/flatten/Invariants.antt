-- `canonical_time::flatten::flatten` meets its contract.
use Rattle.std.proofs.Common.{length}
use Rattle.canonical_time.proofs.FlattenReturns.{FlatOn}
use Rattle.canonical_time.proofs.flatten.flatten.Given as goal

abbrev pub invariant-loop-number : goal.invariant-loop-number
invariant-loop-number l =
    FlatOn l.states l.span_counts l.spans l.list (length l.list) l.initial.span_states l.initial.span_codes l.number-index l.place l.span_states l.span_codes
