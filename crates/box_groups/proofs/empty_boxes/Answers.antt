use mathlib.Core.Path.{◌≡◌, ap, ◌∙◌}
use native.Mathlib.Omega.{arith}
use lib.ListN.{length, take}
use lib.Seq.{take-length}
use Rattle.laws.proofs.Lists.{All-at}
use Prim.Native.Nat.{◌<◌}
use Rattle.box_groups.specs.Boxes.{emptied_at}
use Rattle.box_groups.proofs.Listed.{emptied-none, emptied-more}
use Rattle.box_groups.proofs.empty_boxes.Goals as goal

pub loop-number-init : goal.loop-number-init
loop-number-init c = emptied-none _ c.args.boxes.now

pub bounds-cells-from : goal.bounds-cells-from
bounds-cells-from c =
    let a = c.args in
    omega (arith, All-at (λ b. b < length a.cells.now) a.boxes.now 0 c.requires c.loop-number.number-index c.loop-number-test.true, c.from.ensures, c.loop-number.auto.cells)

pub loop-number-preserved : goal.loop-number-preserved
loop-number-preserved c =
    let a = c.args in
    let low = All-at (λ b. b < length a.cells.now) a.boxes.now 0 c.requires c.loop-number.number-index c.loop-number-test.true in
    rw c.from.ensures
    (emptied-more a.cells.now c.loop-number.cells a.boxes.now c.loop-number.number-index c.loop-number-test.true (omega (arith, low, c.loop-number.auto.cells))
    c.loop-number.invariant)

pub returns : goal.returns
returns c =
    let a = c.args in
    let all : c.loop-number.number-index ≡ length a.boxes.now = omega arith in
    λ q. c.loop-number.invariant q ∙ ap (λ L. emptied_at a.cells.now L q) (ap (λ n. take n a.boxes.now) all ∙ take-length a.boxes.now)
