-- `field::low_bits` meets its contract: the mask is as many ones.
use mathlib.Core.Path.{◌≡◌, ap, ◌∙◌}
use Prim.Native.Nat.{ℕ, ◌-◌, ◌*◌, ◌%◌, ◌^◌, ◌<◌}
use native.Mathlib.Omega.{arith}
use lib.Bits.{bit_and, and_mask}
use lib.Pow.{pow_pos, shl_exact}
use Rattle.field.proofs.low_bits.Goals as goal

one_shifted : (count : ℕ) → count < 64 → 1 * 2 ^ count % 2 ^ 64 ≡ 2 ^ count
one_shifted count l = shl_exact {a = 1} 1 count 64 (omega arith) (omega arith) ∙ omega arith

pub overflow_sub-result : goal.overflow_sub-result
overflow_sub-result c =
    omega (arith, one_shifted c.args.count c.requires, pow_pos c.args.count)

pub returns : goal.returns
returns c =
    ap (λ power. bit_and c.args.number (power - 1)) (one_shifted c.args.count c.requires) ∙ and_mask c.args.number c.args.count
