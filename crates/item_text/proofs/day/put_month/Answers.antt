-- `item_text::day::put_month` meets its contract: the name is found in the row.
use native.Mathlib.Omega.{arith}
use Rattle.definition.specs.Text.{ascii}
use Rattle.text.proofs.Putting.{put_as}
use Rattle.item_text.proofs.Names.{month-found}
use Rattle.item_text.proofs.day.put_month.Goals as goal

pub overflow_sub-month : goal.overflow_sub-month
overflow_sub-month c =
    (month-found c.args.month c.requires.0).0

pub put_name-requires : goal.put_name-requires
put_name-requires c =
    let pre = c.requires in
    let k = month-found c.args.month pre.0 in
    (omega (arith, k.0, k.1), omega (arith, k.3, pre.1))

pub returns : goal.returns
unfolding ascii
returns c =
    put_as (month-found c.args.month c.requires.0).2 c.put_name.ensures
