-- `tables::page::page_size` meets its contract.
use Rattle.tables.proofs.Pages.{size_is}
use Rattle.tables.proofs.page.page_size.Goals as goal

pub returns : goal.returns
returns c =
    let args = c.args in
    size_is args.pages.now args.at _ _ _ _ c.from-years.ensures c.from-months.ensures c.from-weeks.ensures
    c.from-weekdays.ensures
