-- `paving_pages::pop_class` meets its contract. The loop's invariant: appending the groups that are left gives what appending all gives, and
-- they have room; `first` is the first box of the class, if there is one.
-- what is left to append and to mark gives what the start gives, and so does what is left in the end; no box passed is of the class
use mathlib.Core.Path.{refl}
use native.Mathlib.Omega.{arith}
use Rattle.paving.specs.Sweep.{mark_group}
use Rattle.paving.proofs.Room.{room-len, room-len₂, room-size}
use Rattle.paving.proofs.Rows.{none-join}
use Rattle.paving.proofs.Skipping.{none_after}
use Rattle.paving.proofs.Sweeping.{empty-unmatched, matching-falls, loop-round, loop-end, marks-round, elsewhere-round}
use Rattle.plain_boxes.proofs.Growing.{first_group, no-group}
use Rattle.box_groups.proofs.Groups.{first-with-value}
use Rattle.paving_pages.specs.Pages.{put_page}
use Rattle.paving_pages.proofs.Appending.{round_room}
use Rattle.paving_pages.proofs.pop_class.Goals as goal

pub size_of-end-requires : goal.size_of-end-requires
size_of-end-requires c =
    let room = c.requires.room in
    (room.column.dims, room.column.filled, omega (arith, room-size _ _ _ _ _ _ room, c.well_formed))

pub width_of-columns-requires : goal.width_of-columns-requires
width_of-columns-requires c =
    (c.requires.room.column.dims, omega (arith, c.requires.room.marked, c.well_formed))

pub next_box-first-requires : goal.next_box-first-requires
next_box-first-requires c =
    (omega arith, omega (arith, room-size _ _ _ _ _ _ c.requires.room, c.size_of-end.ensures), c.requires.classes_value)

pub loop-first-init : goal.loop-first-init
loop-first-init c =
    let box = c.next_box-first.ensures in ((refl, refl), refl, (λ d h. refl), box.1, box.2, box.3)

pub offset_bounds-cells-first : goal.offset_bounds-cells-first
offset_bounds-cells-first c =
    omega (arith, room-size _ _ _ _ _ _ c.requires.room, c.size_of-end.ensures, c.loop-first-test.true, c.well_formed)

pub bounds-cells-first : goal.bounds-cells-first
bounds-cells-first c =
    omega (arith, room-size _ _ _ _ _ _ c.requires.room, c.size_of-end.ensures, c.loop-first-test.true, c.loop-first.auto.cells)

pub pop_group-requires : goal.pop_group-requires
pop_group-requires c =
    let i = c.loop-first.invariant in record {
      room = room-len₂ _ _ _ _ _ _ _ c.loop-first.auto.marks (room-len _ _ _ _ _ _ _ c.loop-first.auto.cells c.requires.room);
      first_bound = (
        omega (arith, c.loop-first-test.true, c.size_of-end.ensures),
        c.width_of-columns.ensures,
        omega (arith, c.requires.sizes_in_bounds.0, c.loop-first.auto.boxes),
        omega (arith, c.requires.sizes_in_bounds.1, c.loop-first.auto.cells),
        first-with-value _ _ _ i.4 (i.5 c.loop-first-test.true),
      );
    }

pub put_page-next-requires : goal.put_page-next-requires
put_page-next-requires c =
    let a = c.args in
    let i = c.loop-first.invariant in
    let one = c.pop_group in
    let group = first_group _ _ _ _ _ _ i.4 _ _ (omega (arith, c.requires.room.marked, c.loop-first.auto.marks)) one.ensures.0 (i.5 c.loop-first-test.true) in
    let page = put_page a.row_starts.now a.cuts.now a.sizes.now 4 in
    let round = loop-round _ _ _ _ _ c.requires.classes_value _ _ _ _ group.0 refl one.ensures.1 page _ _ _ _ i.0.0 i.0.1 refl in
    record {
      cut_rows = c.requires.cut_rows;
      dims_left_in_bounds = omega (arith, c.requires.room.marked, one.auto.marks, c.loop-first.auto.marks);
      dims_left_in_bounds_2 = round_room _ _ _ _ _ _ _ _ _ _ _ round.0 c.loop-first.auto.pages c.requires.class_in_bounds;
    }

pub next_box-first-requires-in-loop-first : goal.next_box-first-requires-in-loop-first
next_box-first-requires-in-loop-first c =
    let i = c.loop-first.invariant in
    (i.3, omega (arith, room-size _ _ _ _ _ _ c.requires.room, c.size_of-end.ensures, c.pop_group.auto.cells, c.loop-first.auto.cells), c.requires.classes_value)

pub loop-first-smaller : goal.loop-first-smaller
loop-first-smaller c =
    let i = c.loop-first.invariant in
    let one = c.pop_group in
    let group = first_group _ _ _ _ _ _ i.4 _ _ (omega (arith, c.requires.room.marked, c.loop-first.auto.marks)) one.ensures.0 (i.5 c.loop-first-test.true) in
    matching-falls _ _ _ _ _ c.requires.classes_value _ _ _ _ group.0 refl one.ensures.1

pub loop-first-preserved : goal.loop-first-preserved
loop-first-preserved c =
    let put = c.put_page-next in
    let a = c.args in
    let i = c.loop-first.invariant in
    let none = c.requires.classes_value in
    let one = c.pop_group in
    let group = first_group _ _ _ _ _ _ i.4 _ _ (omega (arith, c.requires.room.marked, c.loop-first.auto.marks)) one.ensures.0 (i.5 c.loop-first-test.true) in
    let cleared = one.ensures.1 in
    let box = c.next_box-first-in-loop-first.ensures in
    let page = put_page a.row_starts.now a.cuts.now a.sizes.now 4 in
    let marked = marks-round _ _ _ _ _ none _ _ _ _ group.0 refl cleared _ _ group.1 in (
      loop-round _ _ _ _ _ none _ _ _ _ group.0 refl cleared page _ _ _ _ i.0.0 i.0.1 put.ensures,
      (loop-round _ _ _ _ _ none _ _ _ _ group.0 refl cleared (mark_group _ _) _ _ _ _ i.1 i.0.1 marked).0,
      elsewhere-round _ _ _ _ _ none _ _ _ _ group.0 refl cleared _ i.2,
      box.1,
      none-join _ _ _ _ _
          (none_after _ _ _ _ _ _ _ c.requires.room.column.filled (empty-unmatched _ _ none) cleared (omega (arith, i.3, c.size_of-end.ensures)) i.4) box.2,
      box.3,
    )

pub returns : goal.returns
returns c =
    let a = c.args in
    let i = c.loop-first.invariant in
    let none = c.requires.classes_value in
    let over = no-group _ _ a.sizes.now _ 4 _ i.4 (omega (arith, c.loop-first-test.false, c.size_of-end.ensures)) in
    let page = put_page a.row_starts.now a.cuts.now a.sizes.now 4 in
    let written = loop-end _ _ _ _ _ none page _ _ over refl _ _ _ i.0.0 i.0.1 in
    let marked = loop-end _ _ _ _ _ none (mark_group _ _) _ _ over refl _ _ _ i.1 i.0.1 in
    (written.0, record { marked = marked.0; left = written.1; elsewhere = i.2 })
