-- `writer::copy_fields` meets its contract, 32 bits at a time. The loop's invariant: storing the bits still ahead leaves what storing them
-- all leaves.
use mathlib.Core.Path.{refl, ◌∙◌}
use native.Mathlib.Omega.{arith}
use borrow.Author.Rules.{rules}
use Rattle.definition.specs.Field.{sheet_bits}
use Rattle.definition.proofs.Bits.{sheet-bits, length-sheet_bits}
use Rattle.field.proofs.FieldAt.{field_below}
use Rattle.field.proofs.Bytes.{known_bytes}
use Rattle.writer.proofs.Copying.{copy-first, copy-next, copy-end}
use Rattle.writer.proofs.copy_fields.Goals as goal

pub loop-done-init : goal.loop-done-init
loop-done-init c =
    let args = c.args in
    (omega arith, refl, copy-first (sheet_bits args.sheet.now) args.from args.count args.at (sheet_bits args.out.now))

pub put_field-requires : goal.put_field-requires
put_field-requires c =
    let args = c.args in
    let s = args.sheet.now in
    let loop = c.loop-done in
    let bytes = known_bytes s (λ j. search rules) in (
      omega arith,
      omega arith,
      omega (arith, loop.invariant.1),
      rw c.field_at.ensures (field_below (sheet_bits s) (sheet-bits s bytes) _ _ (omega (arith, length-sheet_bits s))),
    )

pub loop-done-preserved : goal.loop-done-preserved
loop-done-preserved c =
    let args = c.args in
    let loop = c.loop-done in
    let s = sheet_bits args.sheet.now in
    let bytes = known_bytes args.sheet.now (λ j. search rules) in (
      omega arith,
      c.put_field.auto.out ∙ loop.invariant.1,
      copy-next s args.from args.count args.at (sheet-bits args.sheet.now bytes) (omega (arith, length-sheet_bits args.sheet.now))
          (sheet_bits loop.out) _ loop.done _ _ (omega arith) c.field_at.ensures c.put_field.ensures ∙ loop.invariant.2,
    )

pub returns : goal.returns
returns c =
    let args = c.args in
    let loop = c.loop-done in
    copy-end (sheet_bits args.sheet.now) args.from args.count args.at (sheet_bits loop.out) loop.done (omega arith) ∙ loop.invariant.2
