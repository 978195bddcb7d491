-- `draw_rule::runs::find_row` meets its contract. The loop's invariant: the table has the runs of the dimensions before, and of the ranges passed.
use mathlib.Core.Path.{◌≡◌, refl}
use Prim.Native.Nat.{◌+◌, ◌*◌, ◌≤◌}
use native.Mathlib.Omega.{arith}
use lib.ListN.{get_or}
use borrow.Author.Count.{below_more}
use Rattle.tables.specs.Search.{Rising}
use Rattle.tables.specs.Sizes.{range_places}
use Rattle.tables.proofs.Cuts.{row-rising-at}
use Rattle.draw_rule.specs.Runs.{RowRuns}
use Rattle.draw_rule.proofs.Finding.{run_more}
use Rattle.draw_rule.proofs.runs.find_row.Goals as goal

pub bounds-range_counts-dimension : goal.bounds-range_counts-dimension
bounds-range_counts-dimension c =
    let pre = c.requires in omega (arith, pre.lawful.all-counts, pre.dimension_in_bounds.0)

pub bounds-row_starts-dimension : goal.bounds-row_starts-dimension
bounds-row_starts-dimension c =
    let pre = c.requires in omega (arith, pre.lawful.all-rows, pre.dimension_in_bounds.0)

pub loop-range-init : goal.loop-range-init
loop-range-init c =
    (c.requires.runs_up_to, λ r l. absurd (omega arith))

pub find_run-requires : goal.find_run-requires
find_run-requires c =
    let pre = c.requires in
    let a = c.args in
    let few : c.from-count.result * 2 ≤ range_places = omega (arith, pre.lawful.count a.dimension pre.dimension_in_bounds.0, c.from-count.ensures) in
    let rise : Rising a.cuts.now c.from-first.result (c.from-first.result + c.from.result) =
    λ k low high. row-rising-at a.row_starts.now a.sizes.now a.cuts.now _ pre.lawful.rising a.dimension pre.dimension_in_bounds.0 _ _ c.from-first.ensures c.from.ensures k low (omega arith) in
    record {
      at_in_bounds = (omega (arith, c.loop-range-test.true, few, pre.dimension_in_bounds.1, c.loop-range.auto.runs), omega (arith, c.loop-range-test.true, few, pre.lawful.all-ranges, pre.dimension_in_bounds.0));
      first_le_end = (omega arith, omega (arith, pre.lawful.row _ pre.dimension_in_bounds.0, c.from-first.ensures, c.from.ensures), omega arith);
      rising = rise;
    }

pub loop-range-preserved : goal.loop-range-preserved
loop-range-preserved c =
    let inv = c.loop-range.invariant in
    let pre = c.requires in
    let a = c.args in
    let rise : Rising a.cuts.now c.from-first.result (c.from-first.result + c.from.result) =
    λ k low high. row-rising-at a.row_starts.now a.sizes.now a.cuts.now _ pre.lawful.rising a.dimension pre.dimension_in_bounds.0 _ _ c.from-first.ensures c.from.ensures k low (omega arith) in
    let width = c.from.ensures in
    let more =
    run_more a.sizes.now a.row_starts.now a.cuts.now a.ranges.now _ _ a.dimension c.loop-range.range
    c.from-first.result (c.from-first.result + c.from.result) _
    c.from-first.ensures (omega (arith, width)) refl rise c.find_run.ensures a.range_counts.now
    (λ j l. pre.lawful.count j (omega (arith, pre.dimension_in_bounds.0))) inv.0 inv.1 in
    (more.0, more.1)

pub returns : goal.returns
returns c =
    let inv = c.loop-range.invariant in
    let a = c.args in
    let all : c.loop-range.range ≡ get_or a.range_counts.now a.dimension 0 = omega (arith, c.from-count.ensures) in
    below_more (λ i. RowRuns a.sizes.now a.row_starts.now a.cuts.now a.ranges.now c.loop-range.runs i (get_or a.range_counts.now i 0)) a.dimension
    inv.0 (rw (← all) inv.1)
