-- A sheet has no more rules than the largest tables have rows.
use native.Mathlib.Omega.{arith}
use Rattle.lookup.proofs.Lookable.{read-few}
use Rattle.lookup.proofs.rooms.look_moment.Goals as goal

pub look_tabled-requires-in_default-clause-room : goal.look_tabled-requires-in_default-clause-room
look_tabled-requires-in_default-clause-room c =
    let few = read-few _ _ _ _ (λ j. omega (arith, c.type_inv.sheet j)) c.requires.rules_read in
    (omega (arith, few), omega (arith, few), omega (arith, few), omega (arith, few), omega (arith, few))
