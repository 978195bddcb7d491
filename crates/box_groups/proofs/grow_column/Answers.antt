-- `box_groups::grow_column` meets its contract: a good column, and any other.
use mathlib.Core.Path.{sym, ◌∙◌}
use Prim.Native.Nat.{ℕ, ◌<◌}
use native.Mathlib.Omega.{arith}
use lib.ListN.{length, take}
use Rattle.laws.proofs.Lists.{All-map}
use Rattle.box_groups.specs.Boxes.{up}
use Rattle.box_groups.proofs.Listed.{looked-good, looked-bad}
use Rattle.box_groups.proofs.grow_column.Goals as goal

pub append-requires : goal.append-requires
append-requires c =
    let a = c.args in
    let pre = c.requires in
    let low : (b : ℕ) → b < length a.cells.now → b < 65536 = λ b h. omega (arith, h, pre.3) in
    (pre.0, pre.1, All-map low (up a.shift (take a.count a.boxes.now)) pre.4)

pub returns-then-all_are : goal.returns-then-all_are
returns-then-all_are c =
    let a = c.args in
    looked-good a.marks.now a.boxes.now a.count a.listed a.place a.shift _ _ c.requires.0 c.requires.1
    (sym c.all_are.ensures ∙ c.if-all_are.true) c.append.ensures

pub returns : goal.returns
returns c =
    let a = c.args in
    looked-bad a.marks.now a.boxes.now a.count a.listed a.place a.shift _ (sym c.all_are.ensures ∙ c.if-all_are.false)
