-- `sheet::check::first_set` meets its contract.
use mathlib.Core.Path.{sym, ap, ◌∙◌}
use Prim.Native.Nat.{◌+◌}
use native.Mathlib.Omega.{arith}
use Rattle.definition.specs.Field.{sheet_bits}
use Rattle.definition.proofs.Bits.{length-sheet_bits}
use Rattle.sheet.specs.Rules.{place_or}
use Rattle.sheet.proofs.Endings.{set_here, set-later, set-none}
use Rattle.sheet.proofs.check.first_set.Goals as goal

pub returns-then-field_at-gt0 : goal.returns-then-field_at-gt0
returns-then-field_at-gt0 c =
    let args = c.args in
    let at = c.loop-at.at in
    let here = set_here (sheet_bits args.sheet.now) at args.end (omega arith) (omega (arith, length-sheet_bits args.sheet.now))
    (omega (arith, c.field_at.ensures)) in
    sym (ap (place_or args.end) (c.loop-at.invariant ∙ here))

pub loop-at-preserved : goal.loop-at-preserved
loop-at-preserved c =
    let args = c.args in
    let at = c.loop-at.at in
    c.loop-at.invariant
    ∙ set-later (sheet_bits args.sheet.now) at args.end (at + 1) (omega arith) (omega arith)
    (omega (arith, length-sheet_bits args.sheet.now)) (omega (arith, c.field_at.ensures))

pub returns : goal.returns
returns c =
    let args = c.args in
    sym (ap (place_or args.end) (c.loop-at.invariant ∙ set-none (sheet_bits args.sheet.now) c.loop-at.at args.end (omega arith)))
