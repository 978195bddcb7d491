-- The measure of `box_day::scratch::fold_list` is how many rules the room lacks.
use Rattle.std.proofs.Common.{◌-◌, length}
use Rattle.box_day.proofs.scratch.+fold_list.Given as goal

abbrev pub decreases-fold_list : goal.decreases-fold_list
decreases-fold_list l = length l.list.now - l.room
