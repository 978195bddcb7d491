-- `plain_lists::count::note` meets its contract.
use native.Mathlib.Omega.{arith}
use Rattle.plain_lists.proofs.Counting.{kinds-empty, kinds-known, kinds-new}
use Rattle.plain_lists.proofs.count.note.Goals.{then-lists-box_index-eq0-via-then-lists-box_index-eq0, then-lists-box_index-eq0-via-else-lists-box_index-eq0+then-is_known}
use Rattle.plain_lists.proofs.count.note.Goals as goal

pub returns-then-lists-box_index-eq0 : goal.returns-then-lists-box_index-eq0
returns-then-lists-box_index-eq0 c = (
  omega arith,
  elim c.then-lists-box_index-eq0.branch [
    | then-lists-box_index-eq0-via-then-lists-box_index-eq0 w ↦ kinds-empty _ _ _ _ c.requires.2 w.if-lists-box_index-eq0.true
    | then-lists-box_index-eq0-via-else-lists-box_index-eq0+then-is_known w ↦ kinds-known _ _ _ _ c.requires.2 _ w.is_known.ensures w.if-is_known.true
  ],
)

pub returns : goal.returns
returns c = (omega arith, kinds-new _ _ _ _ c.requires.2 _ c.is_known.ensures c.if-is_known.false c.if-lists-box_index-eq0.false c.requires.1)
