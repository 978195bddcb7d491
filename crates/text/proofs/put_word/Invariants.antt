use Prim.Native.Nat.{◌+◌}
use lib.ListN.{take}
use Rattle.text.specs.Put.{Put}
use Rattle.text.proofs.put_word.Given as goal

abbrev pub invariant-loop-i : goal.invariant-loop-i
invariant-loop-i l = Put l.initial.out l.place (take l.i l.word) (l.place + l.i) l.out
