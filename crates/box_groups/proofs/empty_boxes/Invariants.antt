-- `box_groups::empty_boxes` meets its contract. The loop's invariant: the boxes passed are emptied, and no other.
use mathlib.Core.Path.{◌≡◌}
use Prim.Native.Nat.{ℕ}
use lib.ListN.{get_or, take}
use Rattle.box_groups.specs.Boxes.{emptied_at}
use Rattle.box_groups.proofs.empty_boxes.Given as goal

abbrev pub invariant-loop-number : goal.invariant-loop-number
invariant-loop-number l = (q : ℕ) → get_or l.cells q 0 ≡ emptied_at l.initial.cells (take l.number-index l.boxes) q
