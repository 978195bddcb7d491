-- `box_groups::append` meets its contract. The loop's invariant: listing what is left from here gives what listing all gives; the first boxes stay.
use mathlib.Core.Path.{◌≡◌}
use Prim.Native.Nat.{◌+◌}
use lib.ListN.{take, drop}
use lib.Seq.{sets}
use Rattle.box_groups.specs.Boxes.{up}
use Rattle.box_groups.proofs.append.Given as goal

abbrev pub invariant-loop-place : goal.invariant-loop-place
invariant-loop-place l = (take l.count l.boxes ≡ take l.count l.initial.boxes)
    × (sets l.boxes (l.at + l.place) (drop l.place (up l.shift (take l.count l.initial.boxes))) ≡ sets l.initial.boxes l.at (up l.shift (take l.count l.initial.boxes)))
