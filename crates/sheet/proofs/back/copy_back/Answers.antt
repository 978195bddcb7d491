-- `sheet::back::copy_back` meets its contract.
use Rattle.std.proofs.Common.{length, ◌++◌}
use mathlib.Core.Path.{sym, ap, ◌∙◌}
use borrow.Author.Tests.{ltb-true, ltb-false}
use lib.ListN.{drop}
use Rattle.definition.specs.Fold.{buffer, written_numbers}
use Rattle.definition.proofs.Writing.{written-not, written-fine}
use Rattle.sheet.proofs.back.copy_back.Goals as goal

pub returns-then-lacks_room : goal.returns-then-lacks_room
returns-then-lacks_room c =
    let args = c.args in
    let lacking = ltb-true _ _ (sym c.lacks_room.ensures ∙ c.if-lacks_room.true) in
    let not = written-not (length args.out.now) args.sheet.now lacking in
    (c.refused.ensures ∙ sym (ap written_numbers not), sym (ap (λ w. buffer w.result args.out.now) not))

pub returns : goal.returns
returns c =
    let args = c.args in
    let enough = ltb-false _ _ (sym c.lacks_room.ensures ∙ c.if-lacks_room.false) in
    let fine = written-fine (length args.out.now) args.sheet.now enough in (
      sym (ap written_numbers fine),
      ap (◌++ drop (length args.sheet.now) args.out.now) c.copy_from_slice.ensures.after ∙ sym (ap (λ w. buffer w.result args.out.now) fine),
    )
