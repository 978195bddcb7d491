-- `convert::move_rules` meets its contract. The loop's invariant: the rules passed are written, whichever rules the sheet has.
use mathlib.Core.List.{List, flat_map}
use lib.ListN.{length}
use Rattle.definition.specs.Rule.{Rule}
use Rattle.definition.specs.Sheet.{sheet_limits, rule}
use Rattle.forms.specs.Form.{as_form}
use Rattle.sheet.specs.Parts.{SheetRead}
use Rattle.item_writer.specs.Written.{RoomFor}
use Rattle.convert.proofs.Moving.{Moving}
use Rattle.convert.proofs.move_rules.Given as goal

abbrev pub invariant-loop-rule : goal.invariant-loop-rule
invariant-loop-rule l =
    (rs : List Rule) → SheetRead (as_form l.form) l.sheet l.begins rs l.end → RoomFor (length l.initial.out) l.place (flat_map (rule (as_form l.to) sheet_limits).write rs)
    → Moving (as_form l.to) rs l.initial.out l.place l.out l.next l.rule
