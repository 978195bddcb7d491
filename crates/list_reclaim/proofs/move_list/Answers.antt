-- `list_reclaim::move_list` meets its contract.
use mathlib.Core.Path.{◌≡◌}
use mathlib.Core.Logic.{◌≢◌}
use Prim.Native.Nat.{◌+◌}
use lib.ListN.{get_or}
use native.Mathlib.Numerals.{add-one}
use borrow.Author.Rules.{rules}
use Rattle.list_reclaim.proofs.Moving.{moved-not, moved-one}
use Rattle.list_reclaim.proofs.move_list.Goals as goal

pub returns-then-memo-place-ne1 : goal.returns-then-memo-place-ne1
returns-then-memo-place-ne1 c =
    let skipped : get_or c.args.memo.now (c.args.place + 1) 0 ≢ 1 = search rules in
    moved-not _ _ _ _ _ (add-one _) skipped

pub returns : goal.returns
returns c =
    let held : get_or c.args.memo.now (c.args.place + 1) 0 ≡ 1 = search rules in
    moved-one _ _ _ _ _ (add-one _) _ c.requires.0 c.requires.2 c.requires.3 held c.copy_list.ensures
