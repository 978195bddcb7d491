-- `item_text::time::put_clock` meets its contract: hours, `:`, minutes.
use mathlib.Core.Path.{sym}
use Prim.Native.Nat.{◌/◌}
use native.Mathlib.Omega.{arith}
use Rattle.definition.proofs.Lengths.{length_digits}
use Rattle.text.proofs.Putting.{put_then, put_as}
use Rattle.item_text.proofs.Spelled.{clock-text, clock-long}
use Rattle.item_text.proofs.time.put_clock.Goals as goal

pub put_two-hours-requires : goal.put_two-hours-requires
put_two-hours-requires c = (
  omega arith,
  omega (
    arith,
    c.requires.1,
    clock-long c.args.minutes
        c.requires.0,
  ),
)

pub put_byte-colon-requires : goal.put_byte-colon-requires
put_byte-colon-requires c =
    let args = c.args in
    let pre = c.requires in
    omega (arith, pre.1, clock-long args.minutes pre.0, c.put_two-hours.ensures.ends, length_digits 2 (args.minutes / 60))

pub put_two-requires : goal.put_two-requires
put_two-requires c =
    let args = c.args in
    let pre = c.requires in (
      omega arith,
      omega (
        arith,
        pre.1,
        clock-long args.minutes pre.0,
        c.put_two-hours.ensures.ends,
        length_digits 2 (args.minutes / 60),
        c.put_byte-colon.ensures.ends,
      ),
    )

pub returns : goal.returns
returns c =
    put_as (sym (clock-text _ c.requires.0))
    (put_then c.put_two-hours.ensures (put_then c.put_byte-colon.ensures c.put_two.ensures))
