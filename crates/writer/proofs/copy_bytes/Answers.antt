-- `writer::copy_bytes` meets its contract. The loop's invariant: storing the bits still ahead leaves what storing them all leaves.
use mathlib.Core.Path.{◌≡◌, sym, ap, ap₂, ◌∙◌}
use Prim.Native.Nat.{ℕ, ◌+◌, ◌-◌, ◌*◌, ◌/◌, ◌%◌, ◌^◌}
use native.Mathlib.Omega.{arith}
use lib.Seq.{sets}
use borrow.Author.Rules.{rules}
use Rattle.definition.specs.Field.{sheet_bits, bits}
use Rattle.definition.proofs.Bits.{sheet-bits, length-sheet_bits}
use Rattle.field.proofs.Bytes.{known_bytes}
use Rattle.writer.proofs.Bytes.{byte-set, byte-within}
use Rattle.writer.proofs.Copying.{copy-first, copy-next, copy-end}
use Rattle.writer.proofs.copy_bytes.Goals as goal

pub loop-done-init : goal.loop-done-init
loop-done-init c =
    let args = c.args in
    let none : 8 * 0 ≡ 0 = omega arith in
    rw none (copy-first (sheet_bits args.sheet.now) args.from (8 * args.count) (8 * args.first) (sheet_bits args.out.now))

pub loop-done-preserved : goal.loop-done-preserved
loop-done-preserved c =
    let loop = c.loop-done in
    let args = c.args in
    let sheet = args.sheet.now in
    let done = loop.done in
    let bytes = known_bytes sheet (λ j. search rules) in
    let p : ℕ = args.from + 8 * done in
    let shift : 8 - p % 8 ≡ 8 - args.from % 8 = omega arith in
    let two : ℕ = c.from.result * 256 + c.from-in-loop-done.result in
    let value = ap (λ k. two / 2 ^ k % 256) (sym shift)
    ∙ byte-within sheet bytes p (args.from / 8 + done) two (omega arith) (omega (arith, c.requires.0))
    (ap₂ (λ a b. a * 256 + b) c.from.ensures c.from-in-loop-done.ensures) in
    let place : 8 * (args.first + done) ≡ 8 * args.first + 8 * done = omega arith in
    let next : 8 * (done + 1) ≡ 8 * done + 8 = omega arith in
    let byte = two / 2 ^ (8 - args.from % 8) % 256 in
    rw next
    (copy-next (sheet_bits sheet) args.from (8 * args.count) (8 * args.first) (sheet-bits sheet bytes) (omega (arith, length-sheet_bits sheet, c.requires.0))
    (sheet_bits loop.out) _ (8 * done) 8 byte (omega arith) value
    (byte-set loop.out (args.first + done) byte (omega (arith, c.requires.1))
    ∙ ap (λ q. sets (sheet_bits loop.out) q (bits 8 byte)) place) ∙ loop.invariant)

pub returns : goal.returns
returns c =
    let args = c.args in
    let loop = c.loop-done in
    copy-end (sheet_bits args.sheet.now) args.from (8 * args.count) (8 * args.first) (sheet_bits loop.out) (8 * loop.done) (omega arith)
    ∙ loop.invariant
