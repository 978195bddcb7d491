-- `reader::read_at` meets its contract: the field read in the sheet's bytes from its own byte on, or none where the sheet ends before.
use mathlib.Core.Path.{sym, ap, ◌∙◌, subst}
use mathlib.Core.Logic.{inr}
use native.Mathlib.Omega.{arith}
use Rattle.definition.specs.Field.{got}
use Rattle.field.proofs.Taking.{take_short}
use Rattle.reader.specs.Says.{Says}
use Rattle.reader.proofs.Part.{part-within, part-value, part-short}
use Rattle.reader.proofs.read_at.Goals as goal

pub returns-in_default : goal.returns-in_default
returns-in_default c = let h = c.in_default.ensures.lookup in take_short _ _ _ (omega arith)

pub returns-in_default-take_at : goal.returns-in_default-take_at
returns-in_default-take_at c =
    let part = c.in-Some.ensures.lookup.0 in
    part-short c.args.sheet.now c.args.at c.args.width part.0 c.in-Some.rest.now part.2 _ _ c.in_default-take_at.ensures

pub returns-in_err-next : goal.returns-in_err-next
returns-in_err-next c =
    let part = c.in-Some.ensures.lookup.0 in
    subst (λ r. Says r c.args.sheet.now c.args.at c.args.width) (sym c.from_residual.ensures)
    (inr (
      omega (arith, c.in_err-next.ensures),
      part-within c.args.sheet.now c.args.at c.args.width part.0 c.in-Some.rest.now part.2 _ _ c.in-Ok.ensures,
    ))

pub returns : goal.returns
returns c =
    let part = c.in-Some.ensures.lookup.0 in
    ap (got c.in-Ok.value) c.in_ok-next.ensures.1
    ∙ part-value c.args.sheet.now c.args.at c.args.width part.0 c.in-Some.rest.now part.2 _ _ c.in-Ok.ensures
