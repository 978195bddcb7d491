-- `plain_groups::pop_pages` meets its contract. The loop's invariant: what the classes that are left append, and take out, is all that is still missing, and
-- it has room.
use mathlib.Core.Path.{refl, ◌∙◌}
use native.Mathlib.Omega.{arith}
use Rattle.paving.proofs.Room.{room-len, room-len₂}
use Rattle.paving.proofs.Sweeping.{groups-end, groups-step, taken_none, taken_more}
use Rattle.paving_pages.specs.Pages.{put_page}
use Rattle.paving_pages.proofs.Appending.{pages-whole, class-room, rest-room}
use Rattle.paving_pages.proofs.Enough.{pages-few}
use Rattle.plain_groups.proofs.pop_pages.Goals as goal

pub loop-class-init : goal.loop-class-init
loop-class-init c =
    let a = c.args in
    let p = c.requires in
    let few = pages-few a.row_starts.now a.cuts.now a.cells.now a.classes.now a.sizes.now 5 1 p.classes_value.0 in
    (omega (arith, few, p.classes_value.1), refl, λ cells₁ marks₁ taken. taken)

pub pop_class-next-requires : goal.pop_class-next-requires
pop_class-next-requires c =
    let p = c.requires in
    let i = c.loop-class.invariant in
    record {
      room = room-len₂ _ _ _ _ _ _ _ c.loop-class.auto.marks (room-len _ _ _ _ _ _ _ c.loop-class.auto.cells p.room);
      cut_rows = p.cut_rows;
      classes_value = p.classes_value.0;
      class_in_bounds = class-room _ _ _ _ _ _ _ _ _ c.loop-class.pages c.loop-class-test.true i.0;
    }

pub loop-class-preserved : goal.loop-class-preserved
loop-class-preserved c =
    let i = c.loop-class.invariant in
    let one = c.pop_class-next in
    let on = c.loop-class-test.true in (
      rest-room _ _ _ _ _ _ _ _ _ _ on i.0 _ _ _ one.ensures.0 one.ensures.1.left one.auto.pages,
      groups-step _ _ _ _ _ _ (put_page _ _ _ _) _ _ _ _ on one.ensures.0 one.ensures.1.left refl ∙ i.1,
      λ cells₁ marks₁ taken. i.2 cells₁ marks₁ (taken_more _ _ _ _ _ _ _ _ _ _ _ on one.ensures.1 taken),
    )

pub returns : goal.returns
returns c =
    let over = c.loop-class-test.false in
    let i = c.loop-class.invariant in
    let whole = pages-whole _ _ _ _ _ _ _ _ (groups-end _ _ _ _ _ _ (put_page _ _ _ _) _ over ∙ i.1) in
    (whole.0, whole.1, i.2 _ _ (taken_none _ _ _ _ _ _ _ over))
