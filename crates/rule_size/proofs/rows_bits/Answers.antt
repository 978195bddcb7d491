-- `rule_size::rows_bits` meets its contract. The loop's invariant: the rows passed take so many bits, and those left take the rest.
use mathlib.Core.Path.{refl}
use Prim.Native.Nat.{◌+◌}
use native.Mathlib.Omega.{arith}
use lib.ListN.{length}
use Rattle.rule_writer.specs.Rows.{rows_bits}
use Rattle.rule_size.proofs.Sizes.{row_low, no_rows, rows-size}
use Rattle.rule_size.proofs.rows_bits.Goals as goal

pub overflow_mul-bits : goal.overflow_mul-bits
overflow_mul-bits c =
    omega (arith, row_low c.from.result c.item_bits.result (omega (arith, c.from.ensures, c.requires.1 c.loop-sort.sort)) c.item_bits.ensures.1)

pub overflow_add-bits : goal.overflow_add-bits
overflow_add-bits c =
    omega (
      arith,
      row_low c.from.result c.item_bits.result (omega (arith, c.from.ensures, c.requires.1 c.loop-sort.sort)) c.item_bits.ensures.1,
      c.loop-sort.invariant.low,
    )

pub loop-sort-preserved : goal.loop-sort-preserved
loop-sort-preserved c =
    let loop = c.loop-sort in
    let counts = c.args.item_counts.now in record {
      rows = λ ends h.
          omega (
            arith,
            loop.invariant.rows ends h,
            rows-size ends counts loop.sort c.from.result c.item_bits.result (length (rows_bits ends counts (loop.sort + 1))) (omega arith) h c.from.ensures
                c.item_bits.ensures.0 refl,
          );
      low = omega (
        arith,
        row_low c.from.result c.item_bits.result (omega (arith, c.from.ensures, c.requires.1 loop.sort)) c.item_bits.ensures.1,
        loop.invariant.low,
      );
    }

pub returns : goal.returns
returns c =
    let loop = c.loop-sort in
    (λ ends h. omega (arith, loop.invariant.rows ends h, no_rows ends c.args.item_counts.now loop.sort (omega arith)), omega (arith, loop.invariant.low))
