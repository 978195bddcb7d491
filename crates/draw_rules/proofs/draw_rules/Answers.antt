use mathlib.Core.Path.{sym, ◌∙◌}
use native.Mathlib.Omega.{arith}
use borrow.Author.Tests.{ltb-false}
use Rattle.paving_points.proofs.Stepping.{rule-there}
use Rattle.draw_rules.proofs.Tables.{tables-lawful}
use Rattle.draw_rules.proofs.Going.{places-kept, going_start, going-ready, going-node, going-settles, going-long, going-many, going_next, going_end}
use Rattle.draw_rules.proofs.draw_rules.Goals as goal

pub overflow_sub-most : goal.overflow_sub-most
overflow_sub-most c = omega (arith, c.requires.no_lists.places.some)

pub loop-rule-init : goal.loop-rule-init
loop-rule-init c =
    let pre = c.requires.no_lists in
    (omega arith, λ k. omega (arith, pre.unmade k), going_start _ _ _ _ _ _ _ _ _ pre.unnamed)

pub draw_row-drawn-requires : goal.draw_row-drawn-requires
draw_row-drawn-requires c =
    let t = c.requires.to_list.1 in
    let here = c.loop-rule-test.true in
    let inv = c.loop-rule.invariant in
    let places = places-kept _ _ c.loop-rule.auto.cells c.loop-rule.auto.lists c.loop-rule.auto.memo c.requires.no_lists.places in
    record {
      rule_bound = rule-there _ _ _ _ _ _ _ _ t _ here;
      lawful = tables-lawful _ _ _ _ _ _ _ _ t _ here;
      ready = going-ready _ _ _ _ _ _ _ _ _ _ _ _ _ places inv.0 inv.1 inv.2 _ t;
      node = going-node _ _ _ _ _ _ _ _ _ c.loop-rule.memo _ _ _ places inv.0 inv.1 inv.2 _ t;
    }

-- 6
pub returns-then-drawn : goal.returns-then-drawn
returns-then-drawn c =
    let inv = c.loop-rule.invariant in
    let places = places-kept _ _ c.loop-rule.auto.cells c.loop-rule.auto.lists c.loop-rule.auto.memo c.requires.no_lists.places in
    λ rs t. going-long _ _ _ _ _ _ _ _ _ c.loop-rule.memo _ _ _ places inv.0 inv.1 inv.2 c.loop-rule-test.true
    _ _ _ _ _ c.draw_row-drawn.ensures c.if-drawn.true _ _ rs t

pub settle-used-requires : goal.settle-used-requires
settle-used-requires c =
    let inv = c.loop-rule.invariant in
    let places = places-kept _ _ c.loop-rule.auto.cells c.loop-rule.auto.lists c.loop-rule.auto.memo c.requires.no_lists.places in
    let after = places-kept _ _ c.draw_row-drawn.auto.cells c.draw_row-drawn.auto.lists c.draw_row-drawn.auto.memo places in
    record {
      store = going-settles _ _ _ _ _ _ _ _ _ c.loop-rule.memo _ _ _ places inv.0 inv.1 inv.2 c.loop-rule-test.true
          _ _ _ _ _ c.draw_row-drawn.ensures c.draw_row-drawn.auto.memo;
      most_le_held_limit = (places.few, after.enough);
    }

-- 14
pub returns-then-lists_over : goal.returns-then-lists_over
returns-then-lists_over c =
    let inv = c.loop-rule.invariant in
    let places = places-kept _ _ c.loop-rule.auto.cells c.loop-rule.auto.lists c.loop-rule.auto.memo c.requires.no_lists.places in
    λ rs t. going-many _ _ _ _ _ _ _ _ _ c.loop-rule.memo _ _ _ places inv.0 inv.1 inv.2 c.loop-rule-test.true
    _ _ _ _ _ c.draw_row-drawn.ensures c.draw_row-drawn.auto.cells
    c.if-drawn.false _ _ _ _ c.settle-used.ensures (sym c.lists_over.ensures ∙ c.if-lists_over.true) rs t

pub loop-rule-preserved : goal.loop-rule-preserved
loop-rule-preserved c =
    let inv = c.loop-rule.invariant in
    let places = places-kept _ _ c.loop-rule.auto.cells c.loop-rule.auto.lists c.loop-rule.auto.memo c.requires.no_lists.places in
    let few = sym c.lists_over.ensures ∙ c.if-lists_over.false in (
      c.settle-used.ensures.few (ltb-false _ _ few),
      c.settle-used.ensures.memoed,
      going_next _ _ _ _ _ _ _ _ _ c.loop-rule.memo _ _ _ places inv.0 inv.1 inv.2 c.loop-rule-test.true
          _ _ _ _ _ c.draw_row-drawn.ensures c.draw_row-drawn.auto.cells
          c.if-drawn.false _ _ _ _ c.settle-used.ensures few,
    )

pub reclaim-requires : goal.reclaim-requires
reclaim-requires c =
    let inv = c.loop-rule.invariant in
    let places = places-kept _ _ c.loop-rule.auto.cells c.loop-rule.auto.lists c.loop-rule.auto.memo c.requires.no_lists.places in
    let ready = going-ready _ _ _ _ _ _ _ _ _ c.loop-rule.memo _ _ _ places inv.0 inv.1 inv.2 _ c.requires.to_list.1 in
    (ready.store, ready.many, omega (arith, ready.few))

pub returns : goal.returns
returns c =
    let inv = c.loop-rule.invariant in
    let places = places-kept _ _ c.loop-rule.auto.cells c.loop-rule.auto.lists c.loop-rule.auto.memo c.requires.no_lists.places in
    λ rs t. going_end _ _ _ _ _ _ _ _ _ c.loop-rule.memo _ _ _ places inv.2 (omega arith) (omega arith)
    _ _ _ _ c.reclaim.auto.cells c.reclaim.ensures rs t
