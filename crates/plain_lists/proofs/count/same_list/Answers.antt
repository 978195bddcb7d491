use Prim.Native.Nat.{◌+◌}
use native.Mathlib.Omega.{arith}
use Rattle.tables.proofs.Lists.{list_length}
use Rattle.plain_lists.proofs.Same.{alike_next, same-no, same-yes}
use Rattle.plain_lists.proofs.count.same_list.Goals as goal

pub loop-place-init : goal.loop-place-init
loop-place-init c = λ k l. absurd (omega arith)

pub returns-then-lists-one : goal.returns-then-lists-one
returns-then-lists-one c = same-no _ _ _ _ (omega (arith, c.from-end.ensures)) c.loop-place.place c.loop-place-test.true c.if-lists-one.true

pub loop-place-preserved : goal.loop-place-preserved
loop-place-preserved c =
    let a = c.args in
    alike_next a.lists.now a.first a.second _ c.loop-place.invariant c.if-lists-one.false

pub returns : goal.returns
returns c = let a = c.args in same-yes a.lists.now a.first a.second (c.from-end.result + 1) (omega (arith, c.from-end.ensures)) c.loop-place.place (omega arith) c.loop-place.invariant

pub bounds-lists-one-in-loop-place : goal.bounds-lists-one-in-loop-place
bounds-lists-one-in-loop-place c =
    let pre = c.requires.0 in
    omega (arith, c.from-end.ensures, pre.short, pre.room, list_length c.args.lists.now c.args.first, c.loop-place-test.true)

pub bounds-lists-other : goal.bounds-lists-other
bounds-lists-other c =
    omega (arith, c.from-end.ensures, c.requires.0.short, c.requires.1.room, list_length c.args.lists.now c.args.first, c.loop-place-test.true)
