-- `convert::first_long_comment` meets its contract. The loop's invariant: the comments of the rules passed have room.
use Rattle.definition.specs.Field.{sheet_bits}
use Rattle.forms.specs.Form.{as_form}
use Rattle.convert.proofs.Comments.{NoneBefore}
use Rattle.convert.proofs.first_long_comment.Given as goal

abbrev pub invariant-loop-rule : goal.invariant-loop-rule
invariant-loop-rule l = NoneBefore (as_form l.form) (as_form l.to) (sheet_bits l.sheet) l.begins l.rule
