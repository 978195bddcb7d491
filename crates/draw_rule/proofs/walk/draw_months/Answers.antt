-- `draw_rule::walk::draw_months` meets its contract. The loop's invariant: the runs before the one at hand are drawn.
use native.Mathlib.Omega.{arith}
use Rattle.draw_rule.proofs.Level.{level-start, level-run, level-node, level-end, run-there, run-nodes}
use Rattle.draw_rule.proofs.walk.draw_months.Goals as goal

pub bounds-plan-1 : goal.bounds-plan-1
bounds-plan-1 c =
    let pre = c.requires in omega (arith, pre.planned.all-counts)

pub loop-node-init : goal.loop-node-init
loop-node-init c =
    let pre = c.requires in level-start pre.making pre.nodes.1

pub run_below-run-requires : goal.run_below-run-requires
run_below-run-requires c =
    let level = c.loop-node.invariant in
    let pre = c.requires in
    let there = run-there level c.loop-node-test.true c.if-range-count.true pre.planned (omega arith) c.from-count.ensures pre.nodes.0 in
    record { dimension_in_bounds = (there.0, there.1); dimension_bound = omega (arith, there.2, c.well_formed) }

pub draw_years-drawn-requires : goal.draw_years-drawn-requires
draw_years-drawn-requires c =
    let level = c.loop-node.invariant in
    let pre = c.requires in
    let nodes = run-nodes level c.loop-node-test.true c.if-range-count.true pre.planned (omega arith) c.from-count.ensures pre.nodes.0 c.run_below-run.ensures.0 c.run_below-run.ensures.1 in
    record { making = level.walked.making; planned = pre.planned; nodes = nodes }

pub loop-node-preserved-then-range-count : goal.loop-node-preserved-then-range-count
loop-node-preserved-then-range-count c =
    let kept = c.draw_years-drawn.auto in
    level-run c.loop-node.invariant c.loop-node-test.true c.if-range-count.true c.requires.making kept.cells kept.lists kept.memo c.run_below-run.ensures.0
    c.run_below-run.ensures.1 c.draw_years-drawn.ensures

pub loop-node-preserved : goal.loop-node-preserved
loop-node-preserved c =
    level-node c.loop-node.invariant c.loop-node-test.true c.if-range-count.false c.from-count.ensures

pub returns : goal.returns
returns c =
    level-end c.loop-node.invariant c.loop-node-test.false
