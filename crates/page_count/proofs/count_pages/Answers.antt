-- `page_count::count_pages` meets its contract. The loop's invariant: so many pages are passed, and the others end where all do.
use native.Mathlib.Omega.{arith}
use Rattle.tables.proofs.Pages.{size_low}
use Rattle.page_count.proofs.Counting.{pass-first, pass-inside, pass-next, pass-few, pass-last}
use Rattle.page_count.proofs.count_pages.Goals as goal

pub loop-at-init : goal.loop-at-init
loop-at-init c = pass-first _ _ c.requires.by_index

pub page_size-at-requires : goal.page_size-at-requires
page_size-at-requires c =
    omega (arith, pass-inside _ _ _ _ c.loop-at.invariant c.loop-at-test.true, size_low c.args.pages.now c.loop-at.at, c.requires.stop_in_bounds)

pub overflow_add-at : goal.overflow_add-at
overflow_add-at c = omega (arith, pass-inside _ _ _ _ c.loop-at.invariant c.loop-at-test.true, c.page_size-at.ensures, c.well_formed)

pub overflow_add-page_count : goal.overflow_add-page_count
overflow_add-page_count c = omega (arith, pass-few _ _ _ _ c.loop-at.invariant, c.well_formed)

pub loop-at-smaller : goal.loop-at-smaller
loop-at-smaller c = omega (arith, c.page_size-at.ensures, size_low c.args.pages.now c.loop-at.at, c.loop-at-test.true)

pub loop-at-preserved : goal.loop-at-preserved
loop-at-preserved c = pass-next _ _ _ _ c.loop-at.invariant _ c.page_size-at.ensures c.loop-at-test.true

pub returns : goal.returns
returns c = pass-last _ _ _ _ c.loop-at.invariant (omega arith)
