-- `date_items::put_run` meets its contract.
use native.Mathlib.Omega.{arith}
use lib.ListN.{length-set}
use Rattle.date_items.specs.Runs.{cut_of}
use Rattle.date_items.proofs.put_run.Goals as goal

pub bounds-ends-at-2 : goal.bounds-ends-at-2
bounds-ends-at-2 c =
    let a = c.args in
    omega (arith, c.requires.bound.1, length-set a.ends.now a.at (cut_of a.cuts.now a.row a.start))
