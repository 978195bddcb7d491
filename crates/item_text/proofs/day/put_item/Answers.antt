-- `item_text::day::put_item` meets its contract: the number names the sort.
use mathlib.Core.Path.{sym}
use Rattle.item_text.proofs.day.put_item.Goals as goal

pub put_days-requires : goal.put_days-requires
put_days-requires c = rw c.from.ensures c.requires

pub returns : goal.returns
returns c = rw (sym c.from.ensures) c.put_days.ensures
