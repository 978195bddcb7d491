-- `box_day::fold_box` meets its contract: the box's list is lent as a part of all lists, and folded.
use Rattle.std.proofs.Common.{refl, arith}
use Rattle.box_day.proofs.Folding.{fold-needs, fold-gives}
use Rattle.box_day.proofs.fold_box.Goals as goal

pub fold_list-requires : goal.fold_list-requires
fold_list-requires c = record { tables = fold-needs _ _ _ _ _ _ c.requires _ c.from.ensures; le_room = omega arith }

pub returns : goal.returns
returns c = fold-gives _ _ _ _ _ _ c.requires _ c.from.ensures _ _ _ refl c.fold_list.ensures
