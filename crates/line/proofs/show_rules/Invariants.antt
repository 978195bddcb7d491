use Rattle.definition.specs.Field.{sheet_bits}
use Rattle.forms.specs.Form.{as_form}
use Rattle.line.proofs.Steps.{Walked}
use Rattle.line.proofs.show_rules.Given as goal

abbrev pub invariant-loop-i : goal.invariant-loop-i
invariant-loop-i l = Walked (as_form l.form) (sheet_bits l.sheet) l.begins l.initial.out l.i l.to l.out
