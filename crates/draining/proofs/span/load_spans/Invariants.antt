-- `draining::span::load_spans` meets its contract. The loop's invariant: whoever gives what the spans left owe gives what all of them owe; each span
-- passed took 52 bits at most and one place.
use mathlib.Core.List.{List}
use mathlib.Core.Bool.{Bool}
use Prim.Native.Nat.{ℕ, ◌+◌, ◌*◌, ◌-◌, ◌≤◌}
use Rattle.definition.specs.Field.{sheet_bits}
use Rattle.draining.proofs.SpanReturns.{SpansOwed}
use Rattle.draining.proofs.span.load_spans.Given as goal

abbrev pub invariant-loop-i : goal.invariant-loop-i
invariant-loop-i l = record {
  near : l.from + (l.count - l.i) * 52 ≤ l.at + l.count * 52;
  owed : (r : Bool) (after : List ℕ) → SpansOwed (sheet_bits l.sheet) l.from r after (l.place + l.i) l.spans (l.count - l.i)
      → SpansOwed (sheet_bits l.sheet) l.at r after l.place l.initial.spans l.count;
}
