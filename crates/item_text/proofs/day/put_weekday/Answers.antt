-- `item_text::day::put_weekday` meets its contract: the name is found in the row.
use native.Mathlib.Omega.{arith}
use Rattle.definition.specs.Text.{ascii}
use Rattle.text.proofs.Putting.{put_as}
use Rattle.item_text.proofs.Names.{weekday-found}
use Rattle.item_text.proofs.day.put_weekday.Goals as goal

pub put_name-requires : goal.put_name-requires
put_name-requires c =
    let pre = c.requires in
    let k = weekday-found c.args.weekday pre.0 in
    (omega (arith, k.0), omega (arith, k.2, pre.1))

pub returns : goal.returns
unfolding ascii
returns c =
    put_as (weekday-found c.args.weekday c.requires.0).1 c.put_name.ensures
