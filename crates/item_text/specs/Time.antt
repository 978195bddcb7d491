-- The text of a span between two fixed times.
use Rattle.std.specs.Prelude.{List, Bool, ℕ}
use Rattle.std.proofs.Math.Option.{none}
use Rattle.definition.specs.Rule.{fixed}
use Rattle.definition.specs.Line.{span_text}

abbrev pub plain_span : ℕ → ℕ → Bool → List ℕ
plain_span start end open_end = span_text.write (record { start = fixed start; end = fixed end; open_end = open_end; repeats = none })
