-- `line::line_of` meets its contract: 10, then 7, then the line.
use mathlib.Core.Path.{sym, ap, ◌∙◌}
use native.Mathlib.Omega.{arith}
use lib.ListN.{length}
use borrow.Author.Rules.{rules}
use borrow.Author.Tests.{ltb-true, ltb-false}
use Rattle.definition.specs.Field.{sheet_bits}
use Rattle.definition.specs.Fold.{buffer, written_numbers}
use Rattle.forms.specs.Form.{as_form}
use Rattle.sheet.specs.Rules.{rules_at}
use Rattle.line.proofs.Answers.{lines-written, shown-to, shown-not, shown-long, shown-fine}
use Rattle.line.proofs.line_of.Goals as goal

pub returns-then-lacks_room : goal.returns-then-lacks_room
returns-then-lacks_room c =
    let args = c.args in
    let same = shown-long (rules_at (as_form args.form) (sheet_bits args.sheet.now) args.begins.now args.count) _ c.measure.ensures
    (length args.out.now) _ c.in-Ok.is (ltb-true _ _ (sym c.lacks_room.ensures ∙ c.if-lacks_room.true)) in
    (c.refused-then-lacks_room.ensures ∙ sym (ap written_numbers same), sym (ap (λ w. buffer w.result args.out.now) same))

pub returns-in-Err : goal.returns-in-Err
returns-in-Err c =
    let args = c.args in
    let same = shown-not (rules_at (as_form args.form) (sheet_bits args.sheet.now) args.begins.now args.count) _ c.measure.ensures
    (length args.out.now) _ c.in-Err.is in
    (c.refused.ensures ∙ sym (ap written_numbers same), sym (ap (λ w. buffer w.result args.out.now) same))

pub returns-else-lacks_room : goal.returns-else-lacks_room
returns-else-lacks_room c =
    let args = c.args in
    let words = shown-to (rules_at (as_form args.form) (sheet_bits args.sheet.now) args.begins.now args.count) _ c.measure.ensures (length args.out.now) _ c.in-Ok.is in
    let enough = ltb-false _ _ (sym c.lacks_room.ensures ∙ c.if-lacks_room.false) in
    let same = shown-fine (rules_at (as_form args.form) (sheet_bits args.sheet.now) args.begins.now args.count) _ c.measure.ensures (length args.out.now) _ c.in-Ok.is enough in (
      sym (ap written_numbers same),
      lines-written _ _ _ _ _ _ c.show_rules.result c.show_rules.ensures words.0 (omega (arith, words.1, enough))
          ∙ sym (ap (λ w. buffer w.result args.out.now) same),
    )
