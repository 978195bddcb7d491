-- `plain_groups::pop_class` meets its contract. The loop's invariant: appending the groups that are left gives what appending all gives, and they have
-- room; `first` is the first box of the class, if there is one.
-- what is left to append and to mark gives what the start gives, and so does what is left in the end; no box passed is of the class
use mathlib.Core.Path.{refl, ◌∙◌}
use native.Mathlib.Omega.{arith}
use Rattle.paving.specs.Sweep.{mark_group}
use Rattle.paving.proofs.Room.{room-len, room-len₂, room-size}
use Rattle.paving.proofs.Rows.{none-join}
use Rattle.paving.proofs.Skipping.{none_after}
use Rattle.paving.proofs.Sweeping.{empty-unmatched, matching-falls, loop-round, loop-end, marks-round, elsewhere-round}
use Rattle.paving_pages.specs.Pages.{put_page}
use Rattle.paving_pages.proofs.Appending.{round_room}
use Rattle.plain_boxes.proofs.Growing.{first_group, no-group}
use Rattle.plain_groups.proofs.pop_class.Goals as goal

pub size_of-boxes-requires : goal.size_of-boxes-requires
size_of-boxes-requires c =
    let room = c.requires.room in
    (room.column.dims, room.column.filled, omega (arith, room-size _ _ _ _ _ _ room, c.well_formed))

pub next_cell-first-requires : goal.next_cell-first-requires
next_cell-first-requires c =
    (omega arith, omega (arith, room-size _ _ _ _ _ _ c.requires.room, c.size_of-boxes.ensures))

pub loop-first-init : goal.loop-first-init
loop-first-init c =
    let cell = c.next_cell-first.ensures in ((refl, refl), refl, (λ d h. refl), cell.1, cell.2, cell.3)

pub offset_bounds-cells-first : goal.offset_bounds-cells-first
offset_bounds-cells-first c =
    omega (arith, room-size _ _ _ _ _ _ c.requires.room, c.size_of-boxes.ensures, c.loop-first-test.true, c.well_formed)

pub bounds-cells-first : goal.bounds-cells-first
bounds-cells-first c =
    omega (arith, room-size _ _ _ _ _ _ c.requires.room, c.size_of-boxes.ensures, c.loop-first-test.true, c.loop-first.auto.cells)

pub mark_group-requires : goal.mark_group-requires
mark_group-requires c =
    let i = c.loop-first.invariant in record { room = room-len₂ _ _ _ _ _ _ _ c.loop-first.auto.marks (room-len _ _ _ _ _ _ _ c.loop-first.auto.cells c.requires.room); first_bound = omega (arith, c.loop-first-test.true, c.size_of-boxes.ensures) }

pub empty_group-requires : goal.empty_group-requires
empty_group-requires c =
    let i = c.loop-first.invariant in
    room-len₂ _ _ _ _ _ _ _ (c.mark_group.auto.marks ∙ c.loop-first.auto.marks) (room-len _ _ _ _ _ _ _ c.loop-first.auto.cells c.requires.room)

pub put_page-next-requires : goal.put_page-next-requires
put_page-next-requires c =
    let a = c.args in
    let i = c.loop-first.invariant in
    let group = first_group _ _ _ _ _ _ i.4 _ _ (omega (arith, c.requires.room.marked, c.loop-first.auto.marks)) c.mark_group.ensures (i.5 c.loop-first-test.true) in
    let page = put_page a.row_starts.now a.cuts.now a.sizes.now 4 in
    let round = loop-round _ _ _ _ _ c.requires.classes_value _ _ _ _ group.0 refl c.empty_group.ensures page _ _ _ _ i.0.0 i.0.1 refl in
    record {
      cut_rows = c.requires.cut_rows;
      dims_left_in_bounds = omega (arith, c.requires.room.marked, c.mark_group.auto.marks, c.loop-first.auto.marks);
      dims_left_in_bounds_2 = round_room _ _ _ _ _ _ _ _ _ _ _ round.0 c.loop-first.auto.pages c.requires.class_in_bounds;
    }

pub next_cell-first-requires-in-loop-first : goal.next_cell-first-requires-in-loop-first
next_cell-first-requires-in-loop-first c =
    let i = c.loop-first.invariant in
    (i.3, omega (arith, room-size _ _ _ _ _ _ c.requires.room, c.size_of-boxes.ensures, c.empty_group.auto.cells, c.loop-first.auto.cells))

pub loop-first-smaller : goal.loop-first-smaller
loop-first-smaller c =
    let i = c.loop-first.invariant in
    let group = first_group _ _ _ _ _ _ i.4 _ _ (omega (arith, c.requires.room.marked, c.loop-first.auto.marks)) c.mark_group.ensures (i.5 c.loop-first-test.true) in
    matching-falls _ _ _ _ _ c.requires.classes_value _ _ _ _ group.0 refl c.empty_group.ensures

pub loop-first-preserved : goal.loop-first-preserved
loop-first-preserved c =
    let put = c.put_page-next in
    let a = c.args in
    let i = c.loop-first.invariant in
    let none = c.requires.classes_value in
    let group = first_group _ _ _ _ _ _ i.4 _ _ (omega (arith, c.requires.room.marked, c.loop-first.auto.marks)) c.mark_group.ensures (i.5 c.loop-first-test.true) in
    let cleared = c.empty_group.ensures in
    let cell = c.next_cell-first-in-loop-first.ensures in
    let page = put_page a.row_starts.now a.cuts.now a.sizes.now 4 in
    let marked = marks-round _ _ _ _ _ none _ _ _ _ group.0 refl cleared _ _ group.1 in (
      loop-round _ _ _ _ _ none _ _ _ _ group.0 refl cleared page _ _ _ _ i.0.0 i.0.1 put.ensures,
      (loop-round _ _ _ _ _ none _ _ _ _ group.0 refl cleared (mark_group _ _) _ _ _ _ i.1 i.0.1 marked).0,
      elsewhere-round _ _ _ _ _ none _ _ _ _ group.0 refl cleared _ i.2,
      cell.1,
      none-join _ _ _ _ _
          (none_after _ _ _ _ _ _ _ c.requires.room.column.filled (empty-unmatched _ _ none) cleared (omega (arith, i.3, c.size_of-boxes.ensures)) i.4) cell.2,
      cell.3,
    )

pub returns : goal.returns
returns c =
    let a = c.args in
    let i = c.loop-first.invariant in
    let none = c.requires.classes_value in
    let over = no-group _ _ a.sizes.now _ 4 _ i.4 (omega (arith, c.loop-first-test.false, c.size_of-boxes.ensures)) in
    let page = put_page a.row_starts.now a.cuts.now a.sizes.now 4 in
    let written = loop-end _ _ _ _ _ none page _ _ over refl _ _ _ i.0.0 i.0.1 in
    let marked = loop-end _ _ _ _ _ none (mark_group _ _) _ _ over refl _ _ _ i.1 i.0.1 in
    (written.0, record { marked = marked.0; left = written.1; elsewhere = i.2 })
