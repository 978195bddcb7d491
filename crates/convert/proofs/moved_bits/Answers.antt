-- `convert::moved_bits` meets its contract: mark, count and heads change their width, and all other bits stay.
use mathlib.Core.Path.{◌≡◌, ap}
use Prim.Native.Nat.{ℕ, ◌*◌, ◌≤◌}
use native.Mathlib.Nat.{mul-le-mul}
use native.Mathlib.Omega.{arith}
use Rattle.definition.specs.Sheet.{head_width}
use Rattle.forms.specs.Form.{as_form}
use Rattle.convert.proofs.moved_bits.Goals as goal

-- so many heads are few bits
heads-low : (n w : ℕ) → n ≤ 256 → w ≤ 88 → n * w ≤ 22528
heads-low n w h k = mul-le-mul h k

pub overflow_sub-copied : goal.overflow_sub-copied
overflow_sub-copied c = omega (arith, c.requires.1, c.opening_width.ensures.0)

pub overflow_mul-copied : goal.overflow_mul-copied
overflow_mul-copied c = omega (arith, heads-low _ _ c.requires.0 c.head_width.ensures.1)

pub overflow_sub-copied-2 : goal.overflow_sub-copied-2
overflow_sub-copied-2 c = omega (arith, c.requires.1, ap (c.args.count *◌) c.head_width.ensures.0, c.opening_width.ensures.0)

pub overflow_mul-result : goal.overflow_mul-result
overflow_mul-result c = omega (arith, heads-low _ _ c.requires.0 c.head_width-2.ensures.1)

pub overflow_add-result : goal.overflow_add-result
overflow_add-result c = omega (arith, heads-low _ _ c.requires.0 c.head_width-2.ensures.1, c.opening_width-2.ensures.1)

pub overflow_add-result-2 : goal.overflow_add-result-2
overflow_add-result-2 c = omega (arith, heads-low _ _ c.requires.0 c.head_width-2.ensures.1, c.opening_width-2.ensures.1, c.requires.2)

pub returns : goal.returns
returns c =
    let a = c.args in
    let heads : a.count * c.head_width.result ≡ a.count * head_width (as_form a.form) = ap (a.count *◌) c.head_width.ensures.0 in
    let moved : a.count * c.head_width-2.result ≡ a.count * head_width (as_form a.to) = ap (a.count *◌) c.head_width-2.ensures.0 in (
      omega (arith, c.requires.1, heads, moved, c.opening_width.ensures.0, c.opening_width-2.ensures.0),
      omega (arith, c.requires.1, heads, c.opening_width.ensures.0, heads-low _ _ c.requires.0 c.head_width-2.ensures.1, c.requires.2, c.opening_width-2.ensures.1),
    )
