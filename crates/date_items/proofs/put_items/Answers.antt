-- `date_items::put_items` meets its contract: a full dimension, one that begins with an unmarked column, one that begins with a run.
use native.Mathlib.Omega.{arith}
use Rattle.date_items.proofs.Returns.{end-bounds, end-positive, runs-room, first_run, first-room, put_first, items-none, items-some}
use Rattle.date_items.proofs.put_items.Goals as goal

pub run_end-end-requires : goal.run_end-end-requires
run_end-end-requires c =
    (omega arith, c.requires.width_in_bounds)

pub returns-then-end-width : goal.returns-then-end-width
returns-then-end-width c =
    let a = c.args in
    items-none a.marks.now a.base a.width a.cuts.now a.row c.requires.cuts c.run_end-end.result a.at a.ends.now
    c.run_end-end.ensures (omega (arith, c.if-end-width.true))

pub put_runs-requires : goal.put_runs-requires
put_runs-requires c =
    let a = c.args in
    let pre = c.requires in
    let room = runs-room a.marks.now a.base a.width a.cuts.now a.row pre.cuts c.run_end-end.result c.run_end-end.ensures
    (λ e. c.if-end-width.false (omega (arith, e))) in
    record { column_le_width = (omega arith, pre.width_in_bounds); cuts = pre.cuts; column_in_bounds = omega (arith, room, pre.row_in_bounds) }

pub returns-then-end-eq0 : goal.returns-then-end-eq0
returns-then-end-eq0 c =
    let a = c.args in
    items-some a.marks.now a.base a.width a.cuts.now a.row c.requires.cuts c.run_end-end.result c.put_runs.result
    a.at a.ends.now _ c.run_end-end.ensures (λ e. c.if-end-width.false (omega (arith, e))) c.put_runs.ensures

pub put_run-requires : goal.put_run-requires
put_run-requires c =
    let a = c.args in
    let pre = c.requires in
    let e = end-bounds a.marks.now a.base a.width 0 (omega arith) _ c.run_end-end.ensures in
    let room = first-room a.marks.now a.base a.width a.cuts.now a.row pre.cuts _ c.run_end-end.ensures (λ e. c.if-end-width.false (omega (arith, e)))
    c.if-end-eq0.false in record {
      start_in_bounds = (omega (arith, pre.cuts.inside), omega (arith, pre.cuts.inside, e.1));
      bound = (
        end-positive a.marks.now a.base a.width a.cuts.now a.row pre.cuts c.run_end-end.result (omega (arith, c.if-end-eq0.false))
            e.1,
        omega (arith, pre.row_in_bounds, room),
      );
    }

pub put_runs-behind-requires : goal.put_runs-behind-requires
put_runs-behind-requires c =
    let a = c.args in
    let pre = c.requires in
    let e = end-bounds a.marks.now a.base a.width 0 (omega arith) _ c.run_end-end.ensures in
    let room = first-room a.marks.now a.base a.width a.cuts.now a.row pre.cuts _ c.run_end-end.ensures (λ e. c.if-end-width.false (omega (arith, e)))
    c.if-end-eq0.false in
    record { column_le_width = (e.1, pre.width_in_bounds); cuts = pre.cuts; column_in_bounds = omega (arith, pre.row_in_bounds, room, c.put_run.auto) }

pub overflow_add-result : goal.overflow_add-result
overflow_add-result c =
    let a = c.args in
    let room = first-room a.marks.now a.base a.width a.cuts.now a.row c.requires.cuts _ c.run_end-end.ensures
    (λ e. c.if-end-width.false (omega (arith, e))) c.if-end-eq0.false in
    omega (arith, c.requires.row_in_bounds, c.well_formed, room, c.put_runs-behind.ensures.0)

pub returns : goal.returns
returns c =
    let a = c.args in
    let run = first_run a.marks.now a.base a.width a.cuts.now a.row c.requires.cuts _ c.run_end-end.ensures c.if-end-eq0.false in
    items-some a.marks.now a.base a.width a.cuts.now a.row c.requires.cuts c.run_end-end.result _ a.at a.ends.now _
    c.run_end-end.ensures (λ e. c.if-end-width.false (omega (arith, e)))
    (put_first a.marks.now a.base a.width a.cuts.now a.row 0 c.run_end-end.result c.put_runs-behind.result a.at
    a.ends.now _ _ run c.put_run.ensures c.put_runs-behind.ensures)
