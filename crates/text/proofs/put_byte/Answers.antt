-- `text::put_byte` meets its contract: stored where there is room.
use native.Mathlib.Omega.{arith}
use Rattle.text.proofs.Putting.{byte-in, byte-out}
use Rattle.text.proofs.put_byte.Goals.{then-place-out, else-place-out}
use Rattle.text.proofs.put_byte.Goals as goal

pub returns : goal.returns
returns c = elim c.if-place-out.branch [ then-place-out w ↦ byte-in _ _ _ _ w.out-is | else-place-out w ↦ byte-out _ _ _ _ (omega arith) w.out-is ]
