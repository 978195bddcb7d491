-- `item_writer::day::put_weekdays` meets its contract.
use mathlib.Core.Path.{◌∙◌}
use Rattle.item_writer.proofs.Chain.{room_as, wrote_as}
use Rattle.item_writer.proofs.Joined.{three_carried, carried-as}
use Rattle.item_writer.proofs.Items.{days-joined}
use Rattle.item_writer.proofs.day.put_weekdays.Goals as goal

pub put-requires : goal.put-requires
put-requires c =
    let days = carried-as (three_carried 3 c.args.start c.new.ensures c.then.ensures 3 c.args.end c.then-days.ensures) c.then-days.ensures in
    let all = three_carried 16 0 days c.then-2.ensures 10 1023 c.then-weekdays.ensures in record {
      fits = c.then-weekdays.ensures.fits;
      room_for = room_as (days-joined c.args.start c.args.end ∙ all) c.requires.room_for;
    }

pub returns : goal.returns
returns c =
    let days = carried-as (three_carried 3 c.args.start c.new.ensures c.then.ensures 3 c.args.end c.then-days.ensures) c.then-days.ensures in
    let all = three_carried 16 0 days c.then-2.ensures 10 1023 c.then-weekdays.ensures in
    wrote_as (days-joined c.args.start c.args.end ∙ all) c.put.ensures
