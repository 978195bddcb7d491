-- `prepare::prepare` meets its contract: the rules drained are those of the sheet, and their ranges can be judged.
use native.Mathlib.Omega.{arith}
use Rattle.field.proofs.Bytes.{known_bytes}
use Rattle.prepare.proofs.Reading.{rules-begin, begins-there, drained-few, drained-days, sheet-judged}
use Rattle.prepare.proofs.prepare.Goals as goal

pub drain-drained-requires : goal.drain-drained-requires
drain-drained-requires c =
    let sheet = c.args.sheet.now in
    let pre = c.requires in
    let read = pre.rules_read.1.1 in
    let bytes = known_bytes sheet (λ j. omega (arith, c.type_inv.sheet j)) in
    let room = pre.count_in_bounds in record {
      all_begin = rules-begin _ sheet bytes _ _ _ _ read.0 read.1;
      count_in_bounds = (begins-there _ sheet bytes _ _ _ _ read.0 read.1, room.0, room.1, room.2, room.3);
      count_in_bounds_2 = pre.count_in_bounds_2;
    }

pub judge-requires : goal.judge-requires
judge-requires c =
    let sheet = c.args.sheet.now in
    let pre = c.requires in
    let read = pre.rules_read.1.1 in
    let drain = c.drain-drained in
    let bytes = known_bytes sheet (λ j. omega (arith, c.type_inv.sheet j)) in
    let few = drained-few _ sheet bytes _ _ _ _ read.0 read.1 _ _ _ _ _ _ _ drain.ensures.0 drain.ensures.2 in
    let kept = drain.auto in
    let days = drained-days _ sheet bytes _ _ _ _ read.0 read.1 _ _ _ _ _ _ _ drain.ensures.0 drain.ensures.2
    (omega (arith, kept.range_counts, pre.count_in_bounds_2.0)) (omega (arith, kept.ranges, pre.count_in_bounds_2.1)) in
    let row = pre.row_starts_len in
    record { rule_days = (_, days); row_starts_len = (row.0, row.1, omega (arith, few, row.2)) }

pub returns : goal.returns
returns c =
    let sheet = c.args.sheet.now in
    let pre = c.requires in
    let drain = c.drain-drained in
    let kept = drain.auto in
    let room = pre.count_in_bounds in
    let bytes = known_bytes sheet (λ j. omega (arith, c.type_inv.sheet j)) in
    λ rs end reading many. let days = drained-days _ sheet bytes _ rs end _ reading many _ _ _ _ _ _ _ drain.ensures.0 drain.ensures.2
    (omega (arith, kept.range_counts, pre.count_in_bounds_2.0)) (omega (arith, kept.ranges, pre.count_in_bounds_2.1)) in
    sheet-judged _ sheet bytes _ rs end _ reading many _ _ _ _ _ _ _ drain.ensures.0 drain.ensures.2
    (omega (arith, kept.range_counts, pre.count_in_bounds_2.0)) (omega (arith, kept.ranges, pre.count_in_bounds_2.1)) (omega (arith, kept.states, room.0))
    (omega (arith, kept.span_counts, room.1)) (omega (arith, kept.spans, room.2)) (omega (arith, kept.replacing, room.3)) _ drain.ensures.1 _ _ _ _
    (c.judge.ensures _ days)
