-- `fold_pages::pop_with` meets its contract: there are marks and room for all boxes.
use Prim.Native.Nat.{ℕ}
use native.Mathlib.Omega.{arith}
use lib.ListN.{length-replicate}
use Rattle.paved.proofs.Ready.{boxes-room}
use Rattle.fold_pages.proofs.pop_with.Goals as goal

pub pop_pages-requires : goal.pop_pages-requires
pop_pages-requires g c =
    let pre = c.requires in record {
      room = boxes-room _ _ _ pre.cells_len.2 (omega (arith, pre.cells_len.0, pre.enough, length-replicate {A = ℕ} g.row.MARKS 0));
      cut_rows = pre.cut_rows;
      classes_value = pre.classes_value;
      sizes_in_bounds = (omega (arith, pre.cells_len.0, pre.enough, length-replicate {A = ℕ} g.row.BOXES 0), omega (arith, pre.cells_len.0, pre.cells_len.1));
    }
