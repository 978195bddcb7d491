-- `text::put_four` meets its contract: two digits and two.
use native.Mathlib.Omega.{arith}
use Prim.Native.Nat.{◌/◌}
use Rattle.definition.proofs.Lengths.{length_digits}
use Rattle.text.proofs.Putting.{put_then, put_as, four-digits}
use Rattle.text.proofs.put_four.Goals as goal

pub put_two-requires : goal.put_two-requires
put_two-requires c =
    (omega arith, omega (arith, c.put_two-next.ensures.ends, length_digits 2 (c.args.value / 100)))

pub returns : goal.returns
returns c =
    put_as (four-digits _) (put_then c.put_two-next.ensures c.put_two.ensures)
