-- `plain_groups::pop_class` meets its contract. The loop's invariant: appending the groups that are left gives what appending all gives, and they have
-- room; `first` is the first box of the class, if there is one.
-- what is left to append and to mark gives what the start gives, and so does what is left in the end; no box passed is of the class
use mathlib.Core.Bool.{true}
use mathlib.Core.Path.{◌≡◌}
use Prim.Native.Nat.{ℕ, ◌≤◌, ◌<◌}
use lib.ListN.{get_or}
use Rattle.paving.specs.Grid.{grid, in_class, NoneFrom}
use Rattle.paving.specs.Sweep.{swept, emitted, mark_group}
use Rattle.paving.proofs.Sweeping.{matching}
use Rattle.paving_pages.specs.Pages.{state, put_page}
use Rattle.plain_groups.proofs.pop_class.Given as goal

abbrev pub invariant-loop-first : goal.invariant-loop-first
invariant-loop-first l = ((emitted (put_page l.row_starts l.cuts l.sizes 4) (state l.pages l.next) (swept l.cells l.classes l.sizes l.class 4).0
    ≡ emitted (put_page l.row_starts l.cuts l.sizes 4) (state l.initial.pages l.start) (swept l.initial.cells l.classes l.sizes l.class 4).0)
    × ((swept l.cells l.classes l.sizes l.class 4).1 ≡ (swept l.initial.cells l.classes l.sizes l.class 4).1))
    × (emitted (mark_group l.sizes 4) l.marks (swept l.cells l.classes l.sizes l.class 4).0 ≡ emitted (mark_group l.sizes 4) l.initial.marks (swept l.initial.cells l.classes l.sizes l.class 4).0)
    × ((d : ℕ) → 1 ≤ d → grid l.cells l.sizes 4 d ≡ grid l.initial.cells l.sizes 4 d)
    × (l.first ≤ l.boxes) × NoneFrom l.cells (in_class l.classes l.class) 0 l.first × (l.first < l.boxes → in_class l.classes l.class (get_or l.cells l.first 0) ≡ true)

abbrev pub decreases-loop-first : goal.decreases-loop-first
decreases-loop-first l = matching l.cells l.classes l.sizes l.class 4
