-- `item_writer::day::put_years` meets its contract.
use Rattle.definition.specs.Field.{field, ◌then◌, via}
use Rattle.definition.specs.Sheet.{year_range}
use Rattle.item_writer.proofs.Chain.{room_as, wrote_as}
use Rattle.item_writer.proofs.Joined.{three_carried}
use Rattle.item_writer.proofs.day.put_years.Goals as goal

pub put-requires : goal.put-requires
unfolding year_range via ◌then◌ field
put-requires c = record {
  fits = c.then-years.ensures.fits;
  room_for = room_as (three_carried 14 c.args.end c.new.ensures c.then.ensures 16 1 c.then-years.ensures) c.requires.room_for;
}

pub returns : goal.returns
unfolding year_range via ◌then◌ field
returns c = wrote_as (three_carried 14 c.args.end c.new.ensures c.then.ensures 16 1 c.then-years.ensures) c.put.ensures
