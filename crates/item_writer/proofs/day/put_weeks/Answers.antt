-- `item_writer::day::put_weeks` meets its contract.
use Rattle.definition.specs.Field.{field, ◌then◌, via}
use Rattle.definition.specs.Sheet.{week_range}
use Rattle.item_writer.proofs.Chain.{room_as, wrote_as}
use Rattle.item_writer.proofs.Joined.{three_carried}
use Rattle.item_writer.proofs.day.put_weeks.Goals as goal

pub put-requires : goal.put-requires
unfolding week_range via ◌then◌ field
put-requires c = record {
  fits = c.then-weeks.ensures.fits;
  room_for = room_as (three_carried 6 c.args.end c.new.ensures c.then.ensures 8 1 c.then-weeks.ensures) c.requires.room_for;
}

pub returns : goal.returns
unfolding week_range via ◌then◌ field
returns c = wrote_as (three_carried 6 c.args.end c.new.ensures c.then.ensures 8 1 c.then-weeks.ensures) c.put.ensures
