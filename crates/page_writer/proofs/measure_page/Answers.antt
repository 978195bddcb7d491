-- `page_writer::measure_page` meets its contract: the day is fetched, then measured.
use mathlib.Core.Path.{refl, sym, ap, ◌∙◌}
use native.Mathlib.Omega.{arith}
use lib.ListN.{length}
use Rattle.laws.specs.Lists.{any_of}
use Rattle.definition.specs.Fold.{many_items}
use Rattle.day_writer.specs.Rules.{rules_bits}
use Rattle.forms.specs.Form.{as_form}
use Rattle.tables.specs.Pages.{page_ends}
use Rattle.tables.proofs.Pages.{size_low}
use Rattle.page_writer.proofs.Folding.{number-ready, book-whole, book-short, book-rules}
use Rattle.page_writer.proofs.measure_page.Goals as goal

pub bounds-page-0 : goal.bounds-page-0
bounds-page-0 c = omega (arith, c.requires.page_ready.inside, size_low c.args.page.now 0)

pub fetch-day-requires : goal.fetch-day-requires
fetch-day-requires c =
    let ready = number-ready c.requires.page_ready _ c.from.ensures in
    record { le_number = (ready.0, omega (arith, c.from.ensures), ready.1); fact = c.requires.fact }

pub slice_bounds-measure_day-end-2 : goal.slice_bounds-measure_day-end-2
slice_bounds-measure_day-end-2 c = omega (arith, c.requires.page_ready.inside, size_low c.args.page.now 0)

pub measure_day-measure-requires : goal.measure_day-measure-requires
measure_day-measure-requires c =
    let page = c.requires.page_ready in
    let day = c.fetch-day.ensures in record {
      in_bounds = (page.rows.four, page.rows.few);
      whole = book-whole page _ c.from.ensures _ _ _ day.inside day.words;
      count_bound = omega (arith, book-short page _ c.from.ensures _ _ _ day.inside day.words);
    }

pub returns : goal.returns
returns c =
    let form = as_form c.args.form in
    let page = c.requires.page_ready in
    let day = c.fetch-day.ensures in
    let ends = page_ends c.args.page.now 0 in
    let same = book-rules page _ c.from.ensures _ _ _ day.inside day.words ends refl in
    let few = book-short page _ c.from.ensures _ _ _ day.inside day.words in
    let measured = c.measure_day-measure.ensures in
    let m = measured.0 ends page.rows.inside in (
      ap length (sym same) ∙ m.0,
      ap (λ rs. length (rules_bits form rs)) (sym same) ∙ m.1,
      ap (any_of (many_items form)) (sym same) ∙ m.2,
      omega (arith, few, measured.1),
      omega (arith, few, measured.2),
      day.opened,
    )
