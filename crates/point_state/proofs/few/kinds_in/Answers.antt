-- `point_state::few::kinds_in` meets its contract: many columns are not compared, each being taken for a kind of its own.
use Rattle.std.proofs.Common.{arith}
use Rattle.point_state.proofs.Columns.{kinds-all, kinds-passed}
use Rattle.point_state.proofs.few.kinds_in.Goals as goal

pub returns-then-size-gt-MOST_COMPARED : goal.returns-then-size-gt-MOST_COMPARED
returns-then-size-gt-MOST_COMPARED c =
    (omega arith, kinds-passed _ _ _ _ _ _ _ _ _ (omega arith) (kinds-all _ _ _ _ _ _ _))
