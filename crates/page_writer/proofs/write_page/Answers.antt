-- `page_writer::write_page` meets its contract: the day is fetched, then written.
use mathlib.Core.Path.{sym, ap, ◌∙◌}
use native.Mathlib.Omega.{arith}
use Rattle.laws.specs.Lists.{any_of}
use Rattle.definition.specs.Fold.{many_items}
use Rattle.item_writer.proofs.Chain.{room_as, wrote_as}
use Rattle.day_writer.specs.Rules.{rules_bits}
use Rattle.forms.specs.Form.{as_form}
use Rattle.tables.proofs.Pages.{size_low}
use Rattle.page_writer.proofs.Folding.{ends-whole, rows_whole, number-ready, book-whole, book-rules}
use Rattle.page_writer.proofs.write_page.Goals as goal

pub bounds-page-0 : goal.bounds-page-0
bounds-page-0 c = omega (arith, c.requires.page_ready.0.inside, size_low c.args.page.now 0)

pub fetch-day-requires : goal.fetch-day-requires
fetch-day-requires c =
    let ready = number-ready c.requires.page_ready.0 _ c.from.ensures in
    record { le_number = (ready.0, omega (arith, c.from.ensures), ready.1); fact = c.requires.fact }

pub slice_bounds-write_day-count-2 : goal.slice_bounds-write_day-count-2
slice_bounds-write_day-count-2 c = omega (arith, c.requires.page_ready.0.inside, size_low c.args.page.now 0)

pub slice_bounds-write_day-start-2 : goal.slice_bounds-write_day-start-2
slice_bounds-write_day-start-2 c = omega (arith, c.requires.page_ready.0.inside, size_low c.args.page.now 0)

pub slice_bounds-write_day-end-3 : goal.slice_bounds-write_day-end-3
slice_bounds-write_day-end-3 c = omega (arith, c.requires.page_ready.0.inside, size_low c.args.page.now 0)

pub write_day-next-requires : goal.write_day-next-requires
write_day-next-requires c =
    let form = as_form c.args.form in
    let page = c.requires.page_ready.0 in
    let all = c.requires.page_ready.1 in
    let day = c.fetch-day.ensures in
    let same = book-rules page _ c.from.ensures _ _ _ day.inside day.words _ (ends-whole page all) in record {
      whole = book-whole page _ c.from.ensures _ _ _ day.inside day.words;
      rows = rows_whole page all;
      countable = ap (any_of (many_items form)) same ∙ c.requires.countable;
      room_for = room_as (ap (rules_bits form) (sym same)) c.requires.room_for;
    }

pub returns : goal.returns
returns c =
    let page = c.requires.page_ready.0 in
    let day = c.fetch-day.ensures in
    let same = book-rules page _ c.from.ensures _ _ _ day.inside day.words _ (ends-whole page c.requires.page_ready.1) in
    (wrote_as (ap (rules_bits (as_form c.args.form)) (sym same)) c.write_day-next.ensures, day.opened)
