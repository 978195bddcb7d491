use native.Mathlib.Omega.{arith}
use borrow.Author.Tests.{not-true, not-false}
use Rattle.paving_points.proofs.Stepping.{rule-there}
use Rattle.plain_lists.proofs.Going.{have-none, going_start, going-coverable, going-long, have-next, going-many, going_next, going_end}
use Rattle.plain_lists.proofs.list_rules.Goals as goal

pub size_of-boxes-requires : goal.size_of-boxes-requires
size_of-boxes-requires c =
    let pre = c.requires in
    let cut = pre.to_list.1.0.2 in
    (omega (arith, cut.four), cut.filled, omega (arith, pre.sizes_bound.0))

pub loop-rule-init : goal.loop-rule-init
loop-rule-init c =
    let room = c.requires.sizes_bound in
    (have-none _ _ room.2 _ c.size_of-boxes.ensures room.0 room.1, going_start _ _ room.2 _ _ _ _ _ _)

pub draw_rule-requires : goal.draw_rule-requires
draw_rule-requires c =
    let t = c.requires.to_list.1 in
    let here = c.loop-rule-test.true in
    let there = rule-there _ _ _ _ _ _ _ _ t _ here in
    record {
      have_lists = (c.loop-rule.invariant.0, there.0);
      coverable = going-coverable _ _ _ _ _ _ _ _ _ here _ c.size_of-boxes.ensures c.loop-rule.invariant.0 _ t;
    }

-- 6
pub returns-then-not-draw_rule : goal.returns-then-not-draw_rule
returns-then-not-draw_rule c =
    let inv = c.loop-rule.invariant in
    going-long _ _ _ _ _ _ _ _ _ c.loop-rule-test.true _ c.size_of-boxes.ensures inv.0 inv.1 _ _ c.draw_rule.ensures (not-true _ c.if-not-draw_rule.true-raw)

pub too_many-requires : goal.too_many-requires
too_many-requires c =
    let inv = c.loop-rule.invariant in
    have-next _ _ _ _ _ _ _ _ _ c.loop-rule-test.true _ c.size_of-boxes.ensures inv.0 inv.1 _ _ c.draw_rule.ensures (not-false _ c.if-not-draw_rule.false-raw)
    c.draw_rule.auto.lists

-- 14
pub returns-then-too_many : goal.returns-then-too_many
returns-then-too_many c =
    let inv = c.loop-rule.invariant in
    going-many _ _ _ _ _ _ _ _ _ c.loop-rule-test.true _ c.size_of-boxes.ensures inv.0 inv.1 _ _ c.draw_rule.ensures
    (not-false _ c.if-not-draw_rule.false-raw) _ c.too_many.ensures c.if-too_many.true

pub loop-rule-preserved : goal.loop-rule-preserved
loop-rule-preserved c =
    let inv = c.loop-rule.invariant in
    let here = c.loop-rule-test.true in
    let boxes = c.size_of-boxes.ensures in
    let fits = not-false _ c.if-not-draw_rule.false-raw in (
      have-next _ _ _ _ _ _ _ _ _ here _ boxes inv.0 inv.1 _ _ c.draw_rule.ensures fits c.draw_rule.auto.lists,
      going_next _ _ _ _ _ _ _ _ _ here _ boxes inv.0 inv.1 _ _ c.draw_rule.ensures fits _ c.too_many.ensures c.if-too_many.false,
    )

pub returns : goal.returns
returns c =
    let inv = c.loop-rule.invariant in
    going_end _ _ _ _ _ _ _ _ _ _ c.size_of-boxes.ensures inv.0 (omega (arith, c.loop-rule.auto.lists, c.requires.sizes_bound.1)) inv.1 (omega arith) (omega arith)
