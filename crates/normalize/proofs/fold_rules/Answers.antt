-- A sheet has no more rules than the largest tables have rows.
use native.Mathlib.Omega.{arith}
use Rattle.field.proofs.Bytes.{known_bytes}
use Rattle.sheet.proofs.Begins.{rules-few}
use Rattle.normalize.proofs.fold_rules.Goals as goal

pub fold_tabled-requires-in_default-clause-room : goal.fold_tabled-requires-in_default-clause-room
fold_tabled-requires-in_default-clause-room c =
    let read = c.requires.1 in
    let few = rules-few _ c.args.sheet.now _ _ (known_bytes c.args.sheet.now (λ j. omega (arith, c.type_inv.sheet j))) read.0.read in
    (omega (arith, few, read.1), omega (arith, few, read.1), omega (arith, few, read.1), omega (arith, few, read.1), omega (arith, few, read.1))
