use mathlib.Core.Path.{◌≡◌}
use native.Mathlib.Omega.{arith}
use lib.ListN.{length}
use Rattle.list_reclaim.proofs.Marking.{marked-none, marked_more}
use Rattle.list_reclaim.proofs.mark.Goals as goal

pub loop-box_index-init : goal.loop-box_index-init
loop-box_index-init c = marked-none _ _

pub bounds-memo-from : goal.bounds-memo-from
bounds-memo-from c = omega (arith, c.from.ensures, c.requires c.loop-box_index.box_index, c.loop-box_index.auto.memo)

pub loop-box_index-preserved : goal.loop-box_index-preserved
loop-box_index-preserved c =
    let number = c.from.ensures in
    marked_more _ _ _ _ _ number (omega (arith, number, c.requires c.loop-box_index.box_index, c.loop-box_index.auto.memo)) c.loop-box_index.invariant

pub returns : goal.returns
returns c = let e : c.loop-box_index.box_index ≡ length c.args.cells.now = omega arith in rw e at c.loop-box_index.invariant
