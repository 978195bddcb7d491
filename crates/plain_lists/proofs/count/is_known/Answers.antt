use mathlib.Core.Path.{◌≡◌, sym, ap, ◌∙◌, subst}
use mathlib.Core.Bool.{false}
use native.Mathlib.Omega.{arith}
use lib.Dec.{eqb}
use lib.ListN.{get_or}
use borrow.Author.Count.{below_more}
use Rattle.laws.specs.Tests.{same_list}
use Rattle.laws.proofs.Numbers.{from-any, from-none}
use Rattle.tables.specs.Lists.{list_of}
use Rattle.plain_lists.specs.Draw.{HasList}
use Rattle.plain_lists.proofs.count.is_known.Goals as goal

pub loop-kind-init : goal.loop-kind-init
loop-kind-init c = λ k l. absurd (omega arith)

pub same_list-requires : goal.same_list-requires
same_list-requires c =
    let pre = c.requires in
    (subst (HasList c.args.lists.now) (sym c.from.ensures) (pre.2 _ c.loop-kind-test.true), pre.0)

pub returns-then-same_list : goal.returns-then-same_list
returns-then-same_list c =
    let a = c.args in
    let compared = c.same_list.ensures ∙ ap (λ n. same_list eqb (list_of a.lists.now n) (list_of a.lists.now a.box_index)) c.from.ensures in
    sym (from-any (λ k. same_list eqb (list_of a.lists.now (get_or a.kinds.now k 0)) (list_of a.lists.now a.box_index)) 0 a.count c.loop-kind.kind
    (omega arith) (omega (arith, c.loop-kind-test.true)) (sym compared ∙ c.if-same_list.true))

pub loop-kind-preserved : goal.loop-kind-preserved
loop-kind-preserved c =
    let a = c.args in
    let compared = c.same_list.ensures ∙ ap (λ n. same_list eqb (list_of a.lists.now n) (list_of a.lists.now a.box_index)) c.from.ensures in
    below_more (λ k. same_list eqb (list_of a.lists.now (get_or a.kinds.now k 0)) (list_of a.lists.now a.box_index) ≡ false) c.loop-kind.kind c.loop-kind.invariant
    (sym compared ∙ c.if-same_list.false)

pub returns : goal.returns
returns c =
    let a = c.args in
    sym (from-none (λ k. same_list eqb (list_of a.lists.now (get_or a.kinds.now k 0)) (list_of a.lists.now a.box_index)) 0 a.count
    (λ k _ l. c.loop-kind.invariant k (omega arith)))
