-- `writer::joined` meets its contract: no bit of the first number is lost.
use mathlib.Core.Path.{◌≡◌, ap}
use Prim.Native.Nat.{◌+◌, ◌-◌, ◌^◌}
use native.Mathlib.Omega.{arith}
use lib.Pow.{shl_exact}
use Rattle.writer.proofs.Bytes.{joined-below}
use Rattle.writer.proofs.joined.Goals as goal

pub overflow_add-result : goal.overflow_add-result
overflow_add-result c =
    let width = c.args.width in
    let n : 64 - width + width ≡ 64 = omega arith in
    omega (arith, shl_exact (64 - width) width 64 c.requires.1 (omega arith), joined-below (64 - width) width c.requires.1 c.requires.2, ap (2 ^◌) n)

pub returns : goal.returns
returns c = let width = c.args.width in ap (◌+ c.args.low) (shl_exact (64 - width) width 64 c.requires.1 (omega arith))
