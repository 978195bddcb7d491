-- `item_writer::day::put_months` meets its contract.
use Rattle.definition.specs.Field.{field, ◌then◌, via, tagged}
use Rattle.definition.specs.Sheet.{monthday_of, monthday_range}
use Rattle.item_writer.proofs.Chain.{room_as, wrote_as}
use Rattle.item_writer.proofs.Joined.{three_carried}
use Rattle.item_writer.proofs.day.put_months.Goals as goal

pub put-requires : goal.put-requires
unfolding monthday_range monthday_of tagged via ◌then◌ field
put-requires c = record {
  fits = c.then-months.ensures.fits;
  room_for = room_as (three_carried 4 c.args.start c.new.ensures c.then.ensures 4 c.args.end c.then-months.ensures) c.requires.room_for;
}

pub returns : goal.returns
unfolding monthday_range monthday_of tagged via ◌then◌ field
returns c = wrote_as (three_carried 4 c.args.start c.new.ensures c.then.ensures 4 c.args.end c.then-months.ensures) c.put.ensures
