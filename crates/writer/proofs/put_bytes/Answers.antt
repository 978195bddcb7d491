-- `writer::put_bytes` meets its contract. The loop's invariant: storing the rest of the number before the bytes already stored leaves
-- what storing it whole leaves.
use mathlib.Core.Path.{◌∙◌}
use Prim.Native.Nat.{◌*◌}
use native.Mathlib.Omega.{arith}
use Rattle.definition.specs.Field.{sheet_bits}
use Rattle.writer.proofs.Bytes.{last_byte, rest_below, none-stored}
use Rattle.writer.proofs.put_bytes.Goals as goal

pub loop-index-preserved : goal.loop-index-preserved
loop-index-preserved c =
    let first = c.args.first in
    let loop = c.loop-index in record {
      fits = rest_below first loop.index loop.rest (omega arith) loop.invariant.fits;
      stored = last_byte loop.out first loop.index loop.rest (omega arith) (omega arith) loop.invariant.fits ∙ loop.invariant.stored;
    }

pub returns : goal.returns
returns c =
    let loop = c.loop-index in
    none-stored (sheet_bits loop.out) (8 * c.args.first) _ loop.rest (omega arith) ∙ loop.invariant.stored
