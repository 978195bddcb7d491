use mathlib.Core.Path.{sym, ◌∙◌}
use native.Mathlib.Omega.{arith}
use borrow.Author.Tests.{ltb-false}
use Rattle.plain_lists.proofs.Counting.{have-first, kinds-none, many-kinds, few-kinds}
use Rattle.plain_lists.proofs.count.counts_over.Goals as goal

pub loop-box_index-init : goal.loop-box_index-init
loop-box_index-init c = (omega arith, kinds-none _ _)

pub note-count-requires : goal.note-count-requires
note-count-requires c =
    let inv = c.loop-box_index.invariant in
    let pre = c.requires in
    (have-first _ _ _ (omega (arith, c.loop-box_index-test.true)) pre.0, omega (arith, c.loop-box_index.auto.kinds, inv.0, pre.1), inv.1)

pub returns-then-lists_over : goal.returns-then-lists_over
returns-then-lists_over c =
    many-kinds _ _ _ _ _ c.note-count.ensures.1 (omega (arith, c.loop-box_index-test.true)) (sym c.lists_over.ensures ∙ c.if-lists_over.true)

pub loop-box_index-preserved : goal.loop-box_index-preserved
loop-box_index-preserved c =
    (ltb-false 512 c.note-count.result (sym c.lists_over.ensures ∙ c.if-lists_over.false), c.note-count.ensures.1)

pub returns : goal.returns
returns c = let inv = c.loop-box_index.invariant in few-kinds _ _ _ _ _ inv.1 (omega arith) inv.0
