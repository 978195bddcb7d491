use native.Mathlib.Omega.{arith}
use borrow.Author.Tests.{not-true, not-false}
use Rattle.plain_boxes.proofs.Digits.{digit_low}
use Rattle.plain_lists.proofs.Covering.{covers-next, covers-no, covers-yes}
use Rattle.plain_lists.proofs.cover.covers.Goals as goal

pub loop-dimension-init : goal.loop-dimension-init
loop-dimension-init c = λ k l. absurd (omega arith)

pub bounds-cuts-dimension : goal.bounds-cuts-dimension
bounds-cuts-dimension c = omega (arith, c.loop-dimension-test.true, c.requires.all-rows)

pub digit-requires : goal.digit-requires
digit-requires c =
    let pre = c.requires in
    let here = c.loop-dimension-test.true in
    (omega (arith, here, pre.four), (λ k l. pre.filled k (omega (arith, here))), pre.small _ here)

pub overflow_add-cut : goal.overflow_add-cut
overflow_add-cut c =
    let pre = c.requires in
    let dimension = c.loop-dimension.dimension in
    let here = c.loop-dimension-test.true in
    let low = digit_low c.args.cuts.sizes.now c.args.box_index dimension (pre.filled dimension here) in
    omega (arith, pre.inside dimension here, low, c.digit.ensures, c.from.ensures)

pub offset_bounds-cuts-cut : goal.offset_bounds-cuts-cut
offset_bounds-cuts-cut c =
    let pre = c.requires in
    let dimension = c.loop-dimension.dimension in
    let here = c.loop-dimension-test.true in
    let low = digit_low c.args.cuts.sizes.now c.args.box_index dimension (pre.filled dimension here) in
    omega (arith, pre.inside dimension here, low, c.digit.ensures, c.from.ensures)

pub bounds-cuts-cut : goal.bounds-cuts-cut
bounds-cuts-cut c =
    let pre = c.requires in
    let dimension = c.loop-dimension.dimension in
    let here = c.loop-dimension-test.true in
    let low = digit_low c.args.cuts.sizes.now c.args.box_index dimension (pre.filled dimension here) in
    omega (arith, pre.inside dimension here, low, c.digit.ensures, c.from.ensures)

pub holds_in-requires : goal.holds_in-requires
holds_in-requires c = (c.requires.ranges-there, c.loop-dimension-test.true)

pub returns-then-not-holds_in : goal.returns-then-not-holds_in
returns-then-not-holds_in c =
    covers-no _ _ _ _ _ _ _ _ _ _ _ c.from.ensures c.digit.ensures c.holds_in.ensures c.loop-dimension-test.true (not-true _ c.if-not-holds_in.true-raw)

pub loop-dimension-preserved : goal.loop-dimension-preserved
loop-dimension-preserved c =
    covers-next _ _ _ _ _ _ _ _ _ _ _ c.from.ensures c.digit.ensures c.holds_in.ensures c.loop-dimension.invariant (not-false _ c.if-not-holds_in.false-raw)

pub returns : goal.returns
returns c = covers-yes _ _ _ _ _ _ _ _ (omega arith) c.loop-dimension.invariant
