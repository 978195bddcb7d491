-- `page_writer::measure_pages` meets its contract. The loop's invariant: the rules and bits so far and those of the pages left are all; the
-- pages left are ready, and the book is open.
use mathlib.Core.Path.{refl}
use Prim.Native.Nat.{◌+◌, ◌≤◌}
use lib.ListN.{length}
use borrow.Author.Rules.{rules}
use native.Mathlib.Omega.{arith}
use Rattle.tables.proofs.Pages.{size_low}
use Rattle.page_writer.proofs.Reading.{cut-ready}
use Rattle.page_writer.proofs.Walking.{measured-as, measured-none, measured-page, measured-more, measured-all}
use Rattle.page_writer.proofs.measure_pages.Goals as goal

pub loop-page-init : goal.loop-page-init
loop-page-init c = record { measured = measured-as (omega arith) (measured-none _ _ _ _ _ _ _ _ c.requires.pages); opened = c.requires.fact }

pub page_size-requires : goal.page_size-requires
page_size-requires c = omega (arith, (measured-page c.loop-page.invariant.measured (omega arith)).inside, size_low c.args.paged.pages.now c.loop-page.here)

pub overflow_add-end : goal.overflow_add-end
overflow_add-end c =
    let inside : c.loop-page.here + c.page_size.result ≤ length c.args.paged.pages.now = omega (arith, (measured-page c.loop-page.invariant.measured (omega arith)).inside, c.page_size.ensures) in
    search rules

pub offset_bounds-paged-here : goal.offset_bounds-paged-here
offset_bounds-paged-here c =
    let inside : c.loop-page.here + c.page_size.result ≤ length c.args.paged.pages.now = omega (arith, (measured-page c.loop-page.invariant.measured (omega arith)).inside, c.page_size.ensures) in
    search rules

pub slice_bounds-measure_page-end : goal.slice_bounds-measure_page-end
slice_bounds-measure_page-end c = omega (arith, (measured-page c.loop-page.invariant.measured (omega arith)).inside, c.page_size.ensures)

pub measure_page-page-requires-clause-page_ready : goal.measure_page-page-requires-clause-page_ready
measure_page-page-requires-clause-page_ready c =
    let ready = measured-page c.loop-page.invariant.measured (omega arith) in
    cut-ready _ _ _ c.page_size.ensures (omega (arith, ready.inside, c.page_size.ensures)) ready refl

pub loop-page-preserved : goal.loop-page-preserved
loop-page-preserved c =
    let inv = c.loop-page.invariant in
    let page = c.measure_page-page.ensures in record {
      measured = measured-as (omega arith) (measured-more inv.measured (omega arith) c.page_size.ensures page.0 page.1 page.2 page.3 page.4);
      opened = page.5;
    }

pub returns : goal.returns
returns c =
    let inv = c.loop-page.invariant in
    let all = measured-all inv.measured (omega arith) in
    (all.0, all.1, all.2, all.3, all.4, inv.opened)
