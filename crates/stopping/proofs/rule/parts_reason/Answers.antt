-- `stopping::rule::parts_reason` meets its contract: the rows of the counts that were read.
use mathlib.Core.Path.{sym, ap, ◌∙◌}
use native.Mathlib.Omega.{arith}
use Prim.Native.Nat.{◌+◌}
use Rattle.definition.specs.Field.{sheet_bits}
use Rattle.definition.proofs.Lengths.{counts-low}
use Rattle.forms.proofs.Numbers.{narrow}
use Rattle.sheet.proofs.Titles.{counts-refused}
use Rattle.stopping.proofs.Meaning.{parts-read}
use Rattle.stopping.proofs.rule.parts_reason.Goals as goal

pub overflow_add-at : goal.overflow_add-at
overflow_add-at c = omega (arith, c.requires.at_bound, c.title_width.ensures.1)

pub returns-in_default : goal.returns-in_default
returns-in_default c =
    counts-refused _ _ _ c.requires.readable _ _ _ (ap (c.args.at +◌) c.title_width.ensures.0) (sym c.in_default.ensures)

pub body_reason-requires : goal.body_reason-requires
body_reason-requires c =
    let few = counts-low _ (sheet_bits c.args.sheet.now) _ _ _ (sym c.in-Ok.ensures) in
    let low = (narrow c.args.form).head-narrow in
    (omega (arith, few.5, c.requires.at_bound, low, c.title_width.ensures.1), (few.0, few.1, few.2, few.3, few.4))

pub returns : goal.returns
returns c =
    c.body_reason.ensures
    ∙ parts-read _ _ _ c.requires.readable _ _ _ (ap (c.args.at +◌) c.title_width.ensures.0) (sym c.in-Ok.ensures)
