-- Lists that can be folded stand among the lists.
use mathlib.Core.List.{List}
use Prim.Native.Nat.{ℕ, zero, suc, ◌*◌, ◌≤◌}
use native.Mathlib.Omega.{arith}
use lib.ListN.{length}
use Rattle.tables.specs.Sizes.{list_places, day_room}
use Rattle.number_lists.specs.Numbered.{AllReady}

pub all_there : (states counts spans lists : List ℕ) (used : ℕ) → AllReady states counts spans lists day_room used → used * list_places ≤ length lists
all_there states counts spans lists zero ready = omega arith
all_there states counts spans lists (suc n) ready = omega (arith, (ready n (omega arith)).there)
