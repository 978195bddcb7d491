-- `writer::put_field` meets its contract: the number of the bytes that the field spans, with the value in its place, is stored in them.
use mathlib.Core.Path.{◌∙◌}
use Prim.Native.Nat.{◌+◌, ◌-◌, ◌/◌, ◌%◌, ◌^◌}
use native.Mathlib.Nat.{lt_of_lt_of_le, mod-lt}
use native.Mathlib.Omega.{arith}
use lib.Pow.{pow_mono, pow_pos}
use borrow.Author.Rules.{rules}
use Rattle.field.proofs.Bytes.{known_bytes, behind}
use Rattle.writer.proofs.Bytes.{joined-below, none-stored, before-below, spanned-below, spanned-stored}
use Rattle.writer.proofs.put_field.Goals as goal

pub returns-then-width-eq0 : goal.returns-then-width-eq0
returns-then-width-eq0 c =
    none-stored _ _ _ _ (omega arith)

pub joined-requires : goal.joined-requires
joined-requires c =
    let at = c.args.at in
    let width = c.args.width in
    let bytes = known_bytes c.args.out.now (λ j. search rules) in
    let few = before-below c.args.out.now bytes at width c.args.value c.requires.2 (omega arith) c.requires.3 in
    (omega arith, lt_of_lt_of_le (rw c.from.ensures few) (pow_mono {i = at % 8} {j = 64 - width} (omega arith)), c.requires.3)

pub joined-requires-2 : goal.joined-requires-2
joined-requires-2 c =
    let at = c.args.at in
    let width = c.args.width in
    let bytes = known_bytes c.args.out.now (λ j. search rules) in
    let few = before-below c.args.out.now bytes at width c.args.value c.requires.2 (omega arith) c.requires.3 in
    let below = joined-below {high = c.from.result / 2 ^ (8 - at % 8)} (at % 8) width (rw c.from.ensures few) c.requires.3 in (
      omega arith,
      rw c.joined.ensures (lt_of_lt_of_le below (pow_mono {i = at % 8 + width} {j = 64 - behind at width} (omega arith))),
      rw c.low_bits-after.ensures (mod-lt _ (pow_pos (behind at width))),
    )

pub put_bytes-requires : goal.put_bytes-requires
put_bytes-requires c =
    let at = c.args.at in
    let width = c.args.width in
    let bytes = known_bytes c.args.out.now (λ j. search rules) in (
      omega arith,
      omega arith,
      spanned-below c.args.out.now bytes at width c.args.value c.requires.2 (omega arith) c.requires.3 _
          (rw (c.joined-2.ensures, c.joined.ensures, c.low_bits-after.ensures, c.from-2.ensures, c.from.ensures)),
    )

pub returns : goal.returns
returns c =
    let at = c.args.at in
    let width = c.args.width in
    let bytes = known_bytes c.args.out.now (λ j. search rules) in
    c.put_bytes.ensures
    ∙ spanned-stored c.args.out.now bytes at width c.args.value c.requires.2 (omega arith) c.requires.3 _
    (rw (c.joined-2.ensures, c.joined.ensures, c.low_bits-after.ensures, c.from-2.ensures, c.from.ensures))
