-- `plain_groups::pop_pages` meets its contract. The loop's invariant: what the classes that are left append, and take out, is all that is still missing, and
-- it has room.
use mathlib.Core.List.{List}
use mathlib.Core.Path.{◌≡◌}
use Prim.Native.Nat.{ℕ, ◌+◌, ◌≤◌}
use lib.ListN.{length}
use Rattle.paving.specs.Sweep.{groups_from, emitted, left_from, TakenOut}
use Rattle.paving_pages.specs.Pages.{state, groups_numbers, put_page}
use Rattle.plain_groups.proofs.pop_pages.Given as goal

abbrev pub invariant-loop-class : goal.invariant-loop-class
invariant-loop-class l = (l.next + length (groups_numbers l.row_starts l.cuts l.sizes 4 (groups_from l.cells l.classes l.sizes 5 l.class 4)) ≤ length l.pages)
    × (emitted (put_page l.row_starts l.cuts l.sizes 4) (state l.pages l.next) (groups_from l.cells l.classes l.sizes 5 l.class 4)
    ≡ emitted (put_page l.row_starts l.cuts l.sizes 4) (state l.initial.pages 0) (groups_from l.initial.cells l.classes l.sizes 5 1 4))
    × ((cells₁ marks₁ : List ℕ) → TakenOut l.sizes 4 l.cells l.marks cells₁ marks₁ (groups_from l.cells l.classes l.sizes 5 l.class 4) (left_from l.cells l.classes l.sizes 5 l.class 4)
    → TakenOut l.sizes 4 l.initial.cells l.initial.marks cells₁ marks₁ (groups_from l.initial.cells l.classes l.sizes 5 1 4) (left_from l.initial.cells l.classes l.sizes 5 1 4))
