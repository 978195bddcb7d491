use mathlib.Core.Path.{sym, ◌∙◌, subst}
use Prim.Native.Nat.{◌+◌}
use native.Mathlib.Omega.{arith}
use borrow.Author.Tests.{not-true, not-false}
use Rattle.plain_lists.specs.Covers.{covers_box}
use Rattle.plain_lists.proofs.Drawing.{Drawn, drawn-none, drawn-all, drawn-have, drawn-clear, drawn-more, drawn-full}
use Rattle.plain_lists.proofs.draw_rule.Goals.{else-covers-via-then-covers+else-not-append, else-covers-via-else-covers}
use Rattle.plain_lists.proofs.draw_rule.Goals as goal

pub loop-box_index-init : goal.loop-box_index-init
loop-box_index-init c = drawn-none _ _ _ _ _

pub append-requires : goal.append-requires
append-requires c =
    (drawn-have _ _ _ _ _ c.requires.have_lists.0 _ _ c.loop-box_index.invariant c.loop-box_index.auto.lists).each _ c.loop-box_index-test.true

pub returns-then-not-append : goal.returns-then-not-append
returns-then-not-append c =
    drawn-full _ _ _ _ _ c.requires.have_lists.0 _ _ c.loop-box_index.invariant c.loop-box_index-test.true _ _ (sym c.covers.ensures ∙ c.if-covers.true)
    c.append.ensures (not-true _ c.if-not-append.true-raw)

pub loop-box_index-preserved : goal.loop-box_index-preserved
loop-box_index-preserved c =
    let inv = c.loop-box_index.invariant in
    let a = c.args in
    let drawn = Drawn a.lists.now a.boxes a.rule a.replaces (covers_box a.cuts.row_starts.now a.cuts.sizes.now a.cuts.cuts.now a.days.range_counts.now a.days.ranges.now a.rule) in
    let box = c.loop-box_index.box_index in
    elim c.else-covers.branch [
      | else-covers-via-then-covers+else-not-append w ↦ subst (λ l. drawn l (box + 1)) (sym w.lists-is)
          (drawn-more _ _ _ _ _ c.requires.have_lists.0 _ _ inv c.loop-box_index-test.true _ _ (sym c.covers.ensures ∙ w.if-covers.true) w.append.ensures
          (not-false _ w.if-not-append.false-raw))
      | else-covers-via-else-covers w ↦ subst (λ l. drawn l (box + 1)) (sym w.lists-is)
          (drawn-clear _ _ _ _ _ c.requires.have_lists.0 _ _ inv c.loop-box_index-test.true (sym c.covers.ensures ∙ w.if-covers.false))
    ]

pub returns : goal.returns
returns c = drawn-all _ _ _ _ _ _ _ (omega arith) c.loop-box_index.invariant
