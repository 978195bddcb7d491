-- `box_groups::unmark` meets its contract.
use mathlib.Core.Path.{◌≡◌, ◌∙◌, ap}
use Prim.Native.Nat.{ℕ, ◌+◌, ◌-◌}
use native.Mathlib.Omega.{arith}
use lib.ListN.{length, take, drop, length-drop}
use lib.Seq.{length-take-le}
use Rattle.std.proofs.Common.{replicate}
use Rattle.box_groups.proofs.Unmarked.{unmarked}
use Rattle.box_groups.proofs.unmark.Goals as goal

pub returns : goal.returns
returns c =
    let a = c.args in
    let n = a.base + a.width - a.base in
    let behind = length-drop a.base a.marks.now in
    let part : length (take n (drop a.base a.marks.now)) ≡ n = length-take-le n (drop a.base a.marks.now) (omega (arith, c.requires, behind)) in
    unmarked a.marks.now _ a.base a.width n c.requires (omega arith) (c.fill.ensures.after (λ y e. e) ∙ ap (λ m. replicate {A = ℕ} m 0) part)
