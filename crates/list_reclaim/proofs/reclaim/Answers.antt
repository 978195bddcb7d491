-- `list_reclaim::reclaim` meets its contract.
use mathlib.Core.Path.{◌∙◌}
use native.Mathlib.Omega.{arith}
use lib.ListN.{length-set}
use Rattle.list_reclaim.proofs.Reclaiming.{reclaimed}
use Rattle.list_reclaim.proofs.reclaim.Goals as goal

pub mark-requires : goal.mark-requires
mark-requires c =
    λ box. omega (arith, c.requires.0.names box, c.requires.1, c.clear.auto.memo)

pub move_down-kept-requires : goal.move_down-kept-requires
move_down-kept-requires c =
    let pre = c.requires in
    (pre.0.room, simp length-set (omega (arith, pre.1, c.clear.auto.memo, c.mark.auto.memo)), pre.2, pre.0.short)

pub rename-requires : goal.rename-requires
rename-requires c =
    let pre = c.requires in
    λ box. omega (arith, pre.0.names box, pre.1, c.clear.auto.memo, c.mark.auto.memo, simp length-set at c.move_down-kept.auto.memo)

pub shape_of-memo : goal.shape_of-memo
shape_of-memo c =
    c.clear-2.auto.memo ∙ (simp length-set at c.move_down-kept.auto.memo) ∙ c.mark.auto.memo ∙ c.clear.auto.memo

pub returns : goal.returns
returns c =
    let pre = c.requires in
    reclaimed _ _ _ _ _ _ _ _ _ _ pre.0 (omega (arith, pre.1, c.clear.auto.memo, c.mark.auto.memo)) c.clear.ensures c.mark.ensures
    c.move_down-kept.ensures c.rename.ensures c.rename.auto.cells c.move_down-kept.auto.lists c.clear-2.ensures
