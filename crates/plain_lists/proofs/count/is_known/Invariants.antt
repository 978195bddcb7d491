-- `plain_lists::count::is_known` meets its contract. The loop's invariant: no kind passed has the box's list.
use mathlib.Core.Path.{◌≡◌}
use mathlib.Core.Bool.{false}
use Prim.Native.Nat.{ℕ, ◌<◌}
use lib.Dec.{eqb}
use lib.ListN.{get_or}
use Rattle.laws.specs.Tests.{same_list}
use Rattle.tables.specs.Lists.{list_of}
use Rattle.plain_lists.proofs.count.is_known.Given as goal

abbrev pub invariant-loop-kind : goal.invariant-loop-kind
invariant-loop-kind l = (k : ℕ) → k < l.kind → same_list eqb (list_of l.lists (get_or l.kinds k 0)) (list_of l.lists l.box_index) ≡ false
