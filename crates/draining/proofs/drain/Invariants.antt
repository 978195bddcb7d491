-- `draining::drain` meets its contract. The loop's invariant: the rules passed are drained into the tables.
use Rattle.definition.specs.Field.{sheet_bits}
use Rattle.forms.specs.Form.{as_form}
use Rattle.draining.proofs.Tabling.{Draining}
use Rattle.draining.proofs.drain.Given as goal

abbrev pub invariant-loop-i : goal.invariant-loop-i
invariant-loop-i l = Draining (as_form l.form) (sheet_bits l.sheet) l.begins l.count l.states l.span_counts l.spans l.replacing l.range_counts l.ranges l.i
