-- `page_writer::write_pages` meets its contract. The loop's invariant: what is written and the rules of the pages left are all; for these there
-- is room, and the book is open.
use mathlib.Core.Path.{refl}
use Prim.Native.Nat.{◌+◌, ◌≤◌}
use native.Mathlib.Omega.{arith}
use lib.ListN.{length}
use borrow.Author.Rules.{rules}
use Rattle.tables.proofs.Pages.{size_low}
use Rattle.page_writer.proofs.Reading.{cut-ready, cut-whole}
use Rattle.page_writer.proofs.Walking.{writing-as, writing-none, writing-page, page-countable, page-room, writing_more, writing-all}
use Rattle.page_writer.proofs.write_pages.Goals as goal

pub loop-page-init : goal.loop-page-init
loop-page-init c =
    let pre = c.requires in
    record { writing = writing-as (omega arith) (writing-none _ _ _ _ _ _ _ _ pre.pages pre.countable _ _ pre.room_for); opened = pre.fact }

pub page_size-requires : goal.page_size-requires
page_size-requires c = omega (arith, (writing-page c.loop-page.invariant.writing (omega arith)).inside, size_low c.args.paged.pages.now c.loop-page.here)

pub overflow_add-end : goal.overflow_add-end
overflow_add-end c =
    let inside : c.loop-page.here + c.page_size.result ≤ length c.args.paged.pages.now = omega (arith, (writing-page c.loop-page.invariant.writing (omega arith)).inside, c.page_size.ensures) in
    search rules

pub offset_bounds-paged-here : goal.offset_bounds-paged-here
offset_bounds-paged-here c =
    let inside : c.loop-page.here + c.page_size.result ≤ length c.args.paged.pages.now = omega (arith, (writing-page c.loop-page.invariant.writing (omega arith)).inside, c.page_size.ensures) in
    search rules

pub slice_bounds-write_page-end : goal.slice_bounds-write_page-end
slice_bounds-write_page-end c = omega (arith, (writing-page c.loop-page.invariant.writing (omega arith)).inside, c.page_size.ensures)

pub write_page-written-requires-clause-page_ready : goal.write_page-written-requires-clause-page_ready
write_page-written-requires-clause-page_ready c =
    let ready = writing-page c.loop-page.invariant.writing (omega arith) in
    (cut-ready _ _ _ c.page_size.ensures (omega (arith, ready.inside, c.page_size.ensures)) ready refl, cut-whole _ _ _ c.page_size.ensures (omega (arith, ready.inside, c.page_size.ensures)))

pub write_page-written-requires-clause-countable : goal.write_page-written-requires-clause-countable
write_page-written-requires-clause-countable c = page-countable c.loop-page.invariant.writing (omega arith) c.page_size.ensures

pub write_page-written-requires-clause-room_for : goal.write_page-written-requires-clause-room_for
write_page-written-requires-clause-room_for c = page-room c.loop-page.invariant.writing (omega arith) c.page_size.ensures

pub loop-page-preserved : goal.loop-page-preserved
loop-page-preserved c =
    let written = c.write_page-written.ensures in
    record { writing = writing-as (omega arith) (writing_more c.loop-page.invariant.writing (omega arith) c.page_size.ensures written.0); opened = written.1 }

pub returns : goal.returns
returns c = writing-all c.loop-page.invariant.writing (omega arith)
