-- `rule_writer::row::put_item` meets its contract, sort by sort.
use native.Mathlib.Omega.{arith}
use Rattle.item_writer.proofs.Chain.{room_as, wrote_as}
use Rattle.rule_writer.proofs.Items.{as-years, as-months, as-weeks, as-weekdays}
use Rattle.rule_writer.proofs.row.put_item.Goals as goal

pub put_years-requires : goal.put_years-requires
put_years-requires c =
    let args = c.args in
    let pre = c.requires in
    let same = as-years args.sort (args.start, args.end) (omega arith) in
    record { start_lt_year_bounds = (omega (arith, same.1, pre.below), omega (arith, same.1, pre.below)); room_for = room_as same.0 pre.room_for }

pub put_months-requires : goal.put_months-requires
put_months-requires c =
    let args = c.args in
    let pre = c.requires in
    let same = as-months args.sort (args.start, args.end) (omega arith) in
    record { start_lt_month_bounds = (omega (arith, same.1, pre.below), omega (arith, same.1, pre.below)); room_for = room_as same.0 pre.room_for }

pub put_weeks-requires : goal.put_weeks-requires
put_weeks-requires c =
    let args = c.args in
    let pre = c.requires in
    let same = as-weeks args.sort (args.start, args.end) (omega arith) in
    record { start_lt_week_bounds = (omega (arith, same.1, pre.below), omega (arith, same.1, pre.below)); room_for = room_as same.0 pre.room_for }

pub put_weekdays-requires : goal.put_weekdays-requires
put_weekdays-requires c =
    let args = c.args in
    let pre = c.requires in
    let same = as-weekdays args.sort (args.start, args.end) (omega arith) in
    record { start_lt_weekday_bounds = (omega (arith, same.1, pre.below), omega (arith, same.1, pre.below)); room_for = room_as same.0 pre.room_for }

pub returns-in-0 : goal.returns-in-0
returns-in-0 c =
    let args = c.args in
    wrote_as (as-years args.sort (args.start, args.end) (omega arith)).0 c.put_years.ensures

pub returns-in-1 : goal.returns-in-1
returns-in-1 c =
    let args = c.args in
    wrote_as (as-months args.sort (args.start, args.end) (omega arith)).0 c.put_months.ensures

pub returns-in-2 : goal.returns-in-2
returns-in-2 c =
    let args = c.args in
    wrote_as (as-weeks args.sort (args.start, args.end) (omega arith)).0 c.put_weeks.ensures

pub returns-in_default : goal.returns-in_default
returns-in_default c =
    let args = c.args in
    wrote_as (as-weekdays args.sort (args.start, args.end) (omega arith)).0 c.put_weekdays.ensures
