-- `sheet::check::ended_at` meets its contract: a padding bit is set, or bytes follow, or the sheet ends.
use mathlib.Core.Path.{sym}
use native.Mathlib.Omega.{arith}
use Rattle.definition.specs.Field.{sheet_bits}
use Rattle.definition.proofs.Bits.{length-sheet_bits}
use Rattle.sheet.proofs.Endings.{ended-set, ended-more, ended-fine}
use Rattle.sheet.proofs.check.ended_at.Goals as goal

pub returns-then-place-end : goal.returns-then-place-end
returns-then-place-end c = sym (ended-set _ _ _ c.first_set-place.ensures tt c.if-place-end.true)

pub returns-then-bytes-sheet : goal.returns-then-bytes-sheet
returns-then-bytes-sheet c =
    let args = c.args in
    sym
    (ended-more (sheet_bits args.sheet.now) args.at _ c.first_set-place.ensures tt (omega arith)
    (omega (arith, length-sheet_bits args.sheet.now)))

pub returns : goal.returns
returns c =
    let args = c.args in
    sym
    (ended-fine (sheet_bits args.sheet.now) args.at _ c.first_set-place.ensures tt (omega arith)
    (omega (arith, length-sheet_bits args.sheet.now)))
