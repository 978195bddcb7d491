-- `box_groups::append` meets its contract. The loop's invariant: listing what is left from here gives what listing all gives; the first boxes stay.
use mathlib.Core.Path.{◌≡◌, refl, ap, ◌∙◌}
use Prim.Native.Nat.{◌+◌, ◌≤◌}
use native.Mathlib.Omega.{arith}
use lib.ListN.{length, take}
use lib.Seq.{sets, take-set-le}
use Rattle.box_groups.specs.Boxes.{up}
use Rattle.box_groups.proofs.Listed.{up-length, up_first, up-low, up-now, list-more, list-end}
use Rattle.box_groups.proofs.append.Goals as goal

pub loop-place-init : goal.loop-place-init
loop-place-init c =
    let a = c.args in
    let z : a.at + 0 ≡ a.at = omega arith in
    (refl, ap (λ j. sets a.boxes.now j (up a.shift (take a.count a.boxes.now))) z)

pub overflow_add-number : goal.overflow_add-number
overflow_add-number c =
    let a = c.args in
    let k = c.loop-place.place in
    let h : a.count ≤ length a.boxes.now = omega (arith, c.requires.0, c.requires.1) in
    omega (
      arith,
      up-low a.boxes.now a.count a.shift h 65536 k c.requires.2 (omega arith),
      up-now a.boxes.now a.count a.shift h c.loop-place.boxes k _ c.loop-place.invariant.0 (omega arith) c.from.ensures,
      up_first a.boxes.now a.count a.shift h k (omega arith),
    )

pub overflow_cast-boxes : goal.overflow_cast-boxes
overflow_cast-boxes c =
    let a = c.args in
    let k = c.loop-place.place in
    let h : a.count ≤ length a.boxes.now = omega (arith, c.requires.0, c.requires.1) in
    omega (
      arith,
      up-low a.boxes.now a.count a.shift h 65536 k c.requires.2 (omega arith),
      up-now a.boxes.now a.count a.shift h c.loop-place.boxes k _ c.loop-place.invariant.0 (omega arith) c.from.ensures,
      up_first a.boxes.now a.count a.shift h k (omega arith),
    )

pub loop-place-preserved : goal.loop-place-preserved
loop-place-preserved c =
    let a = c.args in
    let i = c.loop-place.invariant in
    let k = c.loop-place.place in
    let h : a.count ≤ length a.boxes.now = omega (arith, c.requires.0, c.requires.1) in
    let next = up-now a.boxes.now a.count a.shift h c.loop-place.boxes k _ i.0 (omega arith) c.from.ensures in (
      take-set-le a.count c.loop-place.boxes (a.at + k) _ (omega (arith, c.requires.0)) ∙ i.0,
      list-more c.loop-place.boxes (up a.shift (take a.count a.boxes.now)) a.at k _ (omega (arith, up-length a.boxes.now a.count a.shift h))
          next ∙ i.1,
    )

pub returns : goal.returns
returns c =
    let a = c.args in
    let h : a.count ≤ length a.boxes.now = omega (arith, c.requires.0, c.requires.1) in
    list-end c.loop-place.boxes (up a.shift (take a.count a.boxes.now)) a.at c.loop-place.place
    (omega (arith, up-length a.boxes.now a.count a.shift h)) ∙ c.loop-place.invariant.1
