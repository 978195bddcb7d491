-- `sheet::back::write_back` meets its contract: a refusal stands, and what is accepted is copied.
use mathlib.Core.Path.{sym, ap, ◌∙◌}
use native.Mathlib.Omega.{arith}
use lib.ListN.{length}
use Rattle.definition.specs.Fold.{buffer, written_numbers}
use Rattle.field.proofs.Bytes.{known_bytes}
use Rattle.sheet.proofs.Backs.{back-refused, back-copied}
use Rattle.sheet.proofs.back.write_back.Goals as goal

pub returns-in-Ok : goal.returns-in-Ok
returns-in-Ok c =
    let args = c.args in
    let bytes = known_bytes args.sheet.now (λ j. omega (arith, c.type_inv.sheet j)) in
    let same = back-copied _ (length args.out.now) args.sheet.now bytes _ _ (sym c.in-Ok.ensures.0) in (
      c.copy_back.ensures.0 ∙ sym (ap written_numbers same),
      c.copy_back.ensures.1 ∙ sym (ap (λ w. buffer w.result args.out.now) same),
    )

pub returns-in-Err : goal.returns-in-Err
returns-in-Err c =
    let args = c.args in
    let same = back-refused _ (length args.out.now) args.sheet.now _ _ (sym c.in-Err.ensures.0) in
    (c.refused.ensures ∙ sym (ap written_numbers same), sym (ap (λ w. buffer w.result args.out.now) same))
