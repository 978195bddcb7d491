-- `sheet::rule::counted_end` meets its contract: the counts keep their limits, and their items begin behind them.
use mathlib.Core.Path.{sym, ◌∙◌}
use native.Mathlib.Omega.{arith}
use Rattle.definition.proofs.Lengths.{counts-low}
use Rattle.forms.proofs.Numbers.{narrow}
use Rattle.sheet.specs.End.{as_step}
use Rattle.sheet.proofs.RuleEnds.{counted-goes, counted-stops}
use Rattle.sheet.proofs.WideHeads.{wide-counts}
use Rattle.sheet.proofs.Ends.{fails_on}
use Rattle.sheet.proofs.rule.counted_end.Goals as goal

pub body_end-requires : goal.body_end-requires
body_end-requires c =
    let low = c.counts_allowed.ensures c.if-counts_allowed.true in
    (omega (arith, c.item_count_width-width.ensures.1), (omega (arith, low.0), omega (arith, low.1), omega (arith, low.2), omega (arith, low.3), omega (arith, low.4)))

pub returns-then-counts_allowed : goal.returns-then-counts_allowed
returns-then-counts_allowed c =
    c.body_end.ensures
    ∙ sym (counted-goes _ _ _ _ _
    (wide-counts c.item_count_width-width.result c.item_count_width-width.ensures.1 c.wide_at-three.ensures c.wide_at-two.ensures _ _ _ _ _
    c.args.form c.item_count_width-width.ensures.0 c.part.ensures c.part-then-later-sheet.ensures c.part-then-later-sheet-2.ensures
    c.part-then-later-sheet-3.ensures c.part-then-later-sheet-4.ensures (c.counts_allowed.ensures c.if-counts_allowed.true)))

pub returns-in_err-counts : goal.returns-in_err-counts
returns-in_err-counts c =
    fails_on as_step _ _ _ c.from_residual.ensures.1 (counted-stops _ _ _ _ _ (sym c.in_err-counts.ensures))

pub body_end-requires-2 : goal.body_end-requires-2
body_end-requires-2 c =
    let low = counts-low _ _ _ _ _ (sym c.in_ok-counts.ensures) in
    (omega (arith, low.5, (narrow c.args.form).head-narrow), (omega (arith, low.0), omega (arith, low.1), omega (arith, low.2), omega (arith, low.3), omega (arith, low.4)))

pub returns : goal.returns
returns c = c.body_end-2.ensures ∙ sym (counted-goes _ _ _ _ _ (sym c.in_ok-counts.ensures))
