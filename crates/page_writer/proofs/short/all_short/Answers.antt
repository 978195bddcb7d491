-- `page_writer::short::all_short` meets its contract. The loop's invariant: the lists of the pages passed are short.
use mathlib.Core.Path.{◌≡◌, sym, ap}
use Prim.Native.Nat.{◌+◌, ◌-◌, ◌*◌, ◌≤◌}
use native.Mathlib.Omega.{arith}
use lib.ListN.{length, get_or}
use borrow.Author.Rules.{rules}
use Rattle.tables.specs.Pages.{page_size}
use Rattle.tables.specs.Sizes.{list_places}
use Rattle.tables.proofs.Pages.{size_low}
use Rattle.page_writer.proofs.Brief.{passed-as, none_passed, next-ready, one-passed, all-passed}
use Rattle.page_writer.proofs.short.all_short.Goals as goal

pub loop-page-init : goal.loop-page-init
loop-page-init c = passed-as (omega arith) (none_passed _ _ _)

pub offset_bounds-pages-here : goal.offset_bounds-pages-here
offset_bounds-pages-here c =
    let inside : c.loop-page.here + page_size c.args.pages.now c.loop-page.here ≤ length c.args.pages.now = (next-ready c.loop-page.invariant (omega arith) c.requires.4).inside in
    search rules

pub bounds-pages-here : goal.bounds-pages-here
bounds-pages-here c = omega (arith, (next-ready c.loop-page.invariant (omega arith) c.requires.4).inside, size_low c.args.pages.now c.loop-page.here)

pub overflow_sub-place : goal.overflow_sub-place
overflow_sub-place c = omega (arith, (next-ready c.loop-page.invariant (omega arith) c.requires.4).numbered, c.from-place.ensures)

pub bounds-lists-place : goal.bounds-lists-place
bounds-lists-place c =
    let same : c.from-place.result - 1 ≡ get_or c.args.pages.now c.loop-page.here 0 - 1 = omega (arith, c.from-place.ensures) in
    omega (arith, same, ap (◌* list_places) same, (next-ready c.loop-page.invariant (omega arith) c.requires.4).ready.there)

pub page_size-here-requires : goal.page_size-here-requires
page_size-here-requires c = omega (arith, (next-ready c.loop-page.invariant (omega arith) c.requires.4).inside, size_low c.args.pages.now c.loop-page.here)

pub overflow_add-here : goal.overflow_add-here
overflow_add-here c =
    let inside : c.loop-page.here + c.page_size-here.result ≤ length c.args.pages.now =
    omega (arith, (next-ready c.loop-page.invariant (omega arith) c.requires.4).inside, c.page_size-here.ensures) in
    search rules

pub loop-page-preserved : goal.loop-page-preserved
loop-page-preserved c =
    let same : c.from-place.result - 1 ≡ get_or c.args.pages.now c.loop-page.here 0 - 1 = omega (arith, c.from-place.ensures) in
    passed-as (omega arith) (one-passed c.loop-page.invariant (omega arith) (rw (sym same) (omega arith)) _ c.page_size-here.ensures)

pub returns : goal.returns
returns c = λ e form states counts spans p. all-passed c.loop-page.invariant (omega arith) form states counts spans p
