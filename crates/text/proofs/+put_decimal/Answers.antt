-- `text::put_decimal` meets its contract: one digit, or the last one behind the others. The number falls.
use mathlib.Core.Path.{ap, ◌∙◌}
use mathlib.Core.List.{[], ◌∷◌, ◌++◌}
use lib.ListN.{length}
use Prim.Native.Nat.{◌/◌}
use native.Mathlib.Omega.{arith}
use Rattle.definition.specs.Text.{decimal}
use Rattle.text.proofs.Putting.{put_then, put_as, decimal_digit, decimal-more, longer}
use Rattle.text.proofs.+put_decimal.Goals as goal

pub put_byte-requires : goal.put_byte-requires
put_byte-requires t c = omega (arith, ap length (decimal_digit c.args.value (omega arith)))

pub returns-then-value-lt10 : goal.returns-then-value-lt10
returns-then-value-lt10 t c =
    put_as (ap (◌∷ []) c.digit.ensures ∙ decimal_digit c.args.value (omega arith)) c.put_byte.ensures

pub put_decimal-next-requires : goal.put_decimal-next-requires
put_decimal-next-requires t c = (omega arith, omega (arith, longer c.args.value (omega arith)))

pub put_byte-requires-2 : goal.put_byte-requires-2
put_byte-requires-2 t c =
    omega (arith, c.put_decimal-next.ensures.ends, longer c.args.value (omega arith))

pub returns : goal.returns
returns t c =
    let value = c.args.value in
    put_as (ap (λ d. decimal (value / 10) ++ (d ∷ [])) c.digit-2.ensures ∙ decimal-more value (omega arith))
    (put_then c.put_decimal-next.ensures c.put_byte-2.ensures)
