-- `fold_pages::fold_pages` meets its contract: the small table of classes is enough for 64 lists, the other for as many as are held.
use native.Mathlib.Omega.{arith}
use Rattle.fold_pages.proofs.fold_pages.Goals as goal

pub fold_with-requires-else-used-le64 : goal.fold_with-requires-else-used-le64
fold_with-requires-else-used-le64 c =
    let pre = c.requires in record {
      rule_times = pre.rule_times;
      used_in_bounds = (pre.used_in_bounds.0, omega (arith, pre.rule_times.2.stored.few), omega arith, pre.used_in_bounds.1, pre.used_in_bounds.2);
    }
