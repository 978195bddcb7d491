-- `date_items::put_runs` meets its contract. The loop's invariant: what is written, with the runs from the next start on, is all.
use mathlib.Core.Path.{ap}
use Prim.Native.Nat.{◌+◌}
use native.Mathlib.Omega.{arith}
use lib.ListN.{length}
use Rattle.date_items.proofs.Returns.{end-bounds, end-positive, runs-take, left-all, left-next, left-none}
use Rattle.date_items.proofs.put_runs.Goals as goal

pub loop-start-init : goal.loop-start-init
loop-start-init c =
    let a = c.args in
    let first = c.run_start-start.ensures in
    (first.1, first.2, left-all a.marks.now a.base a.width a.cuts.now a.row a.column c.run_start-start.result a.at a.ends.now first.3)

pub run_end-end-requires : goal.run_end-end-requires
run_end-end-requires c =
    (omega arith, c.requires.column_le_width.1)

pub put_run-requires : goal.put_run-requires
put_run-requires c =
    let a = c.args in
    let i = c.loop-start.invariant in
    let start = c.loop-start.start in
    let within = c.loop-start-test in
    let e = end-bounds a.marks.now a.base a.width (start + 1) (omega arith) _ c.run_end-end.ensures in
    let more = ap length
    (runs-take a.marks.now a.base a.width a.cuts.now a.row c.requires.cuts start (omega arith) (i.1 (omega arith)) _
    c.run_end-end.ensures) in record {
      start_in_bounds = (omega (arith, c.requires.cuts.inside), omega (arith, c.requires.cuts.inside, e.1));
      bound = (
        end-positive a.marks.now a.base a.width a.cuts.now a.row c.requires.cuts c.run_end-end.result (omega (arith, e.0)) e.1,
        omega (arith, c.requires.column_in_bounds, more, c.loop-start.auto.ends, i.2.0),
      );
    }

pub run_start-start-requires-in-loop-start : goal.run_start-start-requires-in-loop-start
run_start-start-requires-in-loop-start c =
    let a = c.args in
    ((end-bounds a.marks.now a.base a.width (c.loop-start.start + 1) (omega arith) _ c.run_end-end.ensures).1, c.requires.column_le_width.1)

pub loop-start-smaller : goal.loop-start-smaller
loop-start-smaller c =
    let a = c.args in
    let e = end-bounds a.marks.now a.base a.width (c.loop-start.start + 1) (omega arith) _ c.run_end-end.ensures in
    omega (arith, e.0, c.run_start-start-in-loop-start.ensures.0)

pub loop-start-preserved : goal.loop-start-preserved
loop-start-preserved c =
    let a = c.args in
    let i = c.loop-start.invariant in
    let next = c.run_start-start-in-loop-start.ensures in
    let run = runs-take a.marks.now a.base a.width a.cuts.now a.row c.requires.cuts c.loop-start.start (omega arith) (i.1 (omega arith)) _
    c.run_end-end.ensures in (
      next.1,
      next.2,
      left-next a.marks.now a.base a.width a.cuts.now a.row a.column c.loop-start.start c.run_end-end.result
          c.run_start-start-in-loop-start.result a.at c.loop-start.count a.ends.now c.loop-start.ends _ run c.put_run.ensures next.3 i.2,
    )

pub returns : goal.returns
returns c =
    let a = c.args in
    left-none a.marks.now a.base a.width a.cuts.now a.row a.column c.loop-start.start a.at c.loop-start.count
    a.ends.now c.loop-start.ends (omega arith) c.loop-start.invariant.2
