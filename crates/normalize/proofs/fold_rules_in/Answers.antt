-- A judgement refuses, or else the tables of the drained rules alone are lent.
use mathlib.Core.Path.{sym, ◌∙◌}
use native.Mathlib.Omega.{arith}
use lib.Seq.{length-take-le}
use Rattle.std.proofs.Common.{rules, ◌*◌}
use Rattle.field.proofs.Bytes.{known_bytes}
use Rattle.prepare.proofs.Reading.{begins-there}
use Rattle.prepare.proofs.ToDraw.{drained-within, prepared-to-draw, judged-fine, judged-refused}
use Rattle.normalize.proofs.Answers.{rules-refused}
use Rattle.normalize.proofs.Left.{rules-leaving, rules-commented}
use Rattle.normalize.proofs.fold_rules_in.Goals as goal

pub overflow_mul-places : goal.overflow_mul-places
overflow_mul-places c =
    let read = c.requires.readings.1 in
    let told = judged-fine _ _ _ _ _ _ _ _ _ _ _ (c.prepare-prepared.ensures _ _ read.0 read.1) _ c.in-Ok.is in
    search (rules, told.0.drawable.0.few-rules)

pub rules_left-left-requires : goal.rules_left-left-requires
rules_left-left-requires c =
    let sheet = c.args.sheet.now in
    let bytes = known_bytes sheet (λ j. omega (arith, c.type_inv.sheet j)) in
    let read = c.requires.readings.1 in
    let fine = judged-fine _ _ _ _ _ _ _ _ _ _ _ (c.prepare-prepared.ensures _ _ read.0 read.1) _ c.in-Ok.is in
    (begins-there _ sheet bytes _ _ _ _ read.0 read.1, drained-within _ _ _ _ _ _ _ _ _ _ _ fine.0 _ read.1)

pub slice_bounds-rules-end : goal.slice_bounds-rules-end
slice_bounds-rules-end c =
    let read = c.requires.readings.1 in
    let fine = judged-fine _ _ _ _ _ _ _ _ _ _ _ (c.prepare-prepared.ensures _ _ read.0 read.1) _ c.in-Ok.is in
    let within = drained-within _ _ _ _ _ _ _ _ _ _ _ fine.0 _ read.1 in
    omega (arith, within, c.requires.rule_room.0, c.prepare-prepared.auto.states)

pub slice_bounds-rules-end-in-Ok : goal.slice_bounds-rules-end-in-Ok
slice_bounds-rules-end-in-Ok c =
    let read = c.requires.readings.1 in
    let fine = judged-fine _ _ _ _ _ _ _ _ _ _ _ (c.prepare-prepared.ensures _ _ read.0 read.1) _ c.in-Ok.is in
    let within = drained-within _ _ _ _ _ _ _ _ _ _ _ fine.0 _ read.1 in
    sym (length-take-le c.in-Ok.drained.rules _ (omega (arith, within, c.requires.rule_room.0, c.prepare-prepared.auto.states)))

pub slice_bounds-rules-end-in-Ok-2 : goal.slice_bounds-rules-end-in-Ok-2
slice_bounds-rules-end-in-Ok-2 c =
    let read = c.requires.readings.1 in
    let fine = judged-fine _ _ _ _ _ _ _ _ _ _ _ (c.prepare-prepared.ensures _ _ read.0 read.1) _ c.in-Ok.is in
    let within = drained-within _ _ _ _ _ _ _ _ _ _ _ fine.0 _ read.1 in
    omega (arith, within, c.requires.rule_room.1, c.prepare-prepared.auto.span_counts)

pub slice_bounds-rules-end-in-Ok-3 : goal.slice_bounds-rules-end-in-Ok-3
slice_bounds-rules-end-in-Ok-3 c =
    let read = c.requires.readings.1 in
    let fine = judged-fine _ _ _ _ _ _ _ _ _ _ _ (c.prepare-prepared.ensures _ _ read.0 read.1) _ c.in-Ok.is in
    let within = drained-within _ _ _ _ _ _ _ _ _ _ _ fine.0 _ read.1 in
    sym (length-take-le c.in-Ok.drained.rules _ (omega (arith, within, c.requires.rule_room.1, c.prepare-prepared.auto.span_counts)))

pub slice_bounds-rules-end-in-Ok-4 : goal.slice_bounds-rules-end-in-Ok-4
slice_bounds-rules-end-in-Ok-4 c =
    let read = c.requires.readings.1 in
    let fine = judged-fine _ _ _ _ _ _ _ _ _ _ _ (c.prepare-prepared.ensures _ _ read.0 read.1) _ c.in-Ok.is in
    let within = drained-within _ _ _ _ _ _ _ _ _ _ _ fine.0 _ read.1 in
    omega (arith, within, c.requires.rule_room.2, c.prepare-prepared.auto.spans)

pub slice_bounds-rules-end-in-Ok-5 : goal.slice_bounds-rules-end-in-Ok-5
slice_bounds-rules-end-in-Ok-5 c =
    let read = c.requires.readings.1 in
    let fine = judged-fine _ _ _ _ _ _ _ _ _ _ _ (c.prepare-prepared.ensures _ _ read.0 read.1) _ c.in-Ok.is in
    let within = drained-within _ _ _ _ _ _ _ _ _ _ _ fine.0 _ read.1 in
    sym (length-take-le (c.in-Ok.drained.rules * 16) _ (omega (arith, within, c.requires.rule_room.2, c.prepare-prepared.auto.spans)))

pub fold_boxes-requires : goal.fold_boxes-requires
fold_boxes-requires c =
    let sheet = c.args.sheet.now in
    let bytes = known_bytes sheet (λ j. omega (arith, c.type_inv.sheet j)) in
    let read = c.requires.readings.1 in
    let fine = judged-fine _ _ _ _ _ _ _ _ _ _ _ (c.prepare-prepared.ensures _ _ read.0 read.1) _ c.in-Ok.is in
    let within = drained-within _ _ _ _ _ _ _ _ _ _ _ fine.0 _ read.1 in
    let left = c.rules_left-left.ensures in (
      c.requires.readings.0,
      record {
        end = c.args.end;
        read = read.0.read;
        commented = rules-commented _ sheet bytes _ _ _ read.0;
        leaving = rules-leaving _ sheet bytes _ _ _ read.0 _ _ fine.0.rules-many read.1 _ _ _ _ _ left.0 left.1 left.2
            (length-take-le _ _ (omega (arith, within, c.requires.rule_room.0, c.prepare-prepared.auto.states))) (left.3 ∙ fine.1);
        to-draw = prepared-to-draw _ _ _ _ _ _ _ _ _ _ _ fine.0 (omega (arith, within, c.requires.rule_room.0, c.prepare-prepared.auto.states));
      },
    )

pub returns-in-Err : goal.returns-in-Err
returns-in-Err c =
    let args = c.args in
    let read = c.requires.readings.1 in
    rules-refused _ args.sheet.now args.out.now _ _ _ read.0.read _ _
    (judged-refused _ _ _ _ _ _ _ _ _ _ _ (c.prepare-prepared.ensures _ _ read.0 read.1) _ c.in-Err.is) c.refused.ensures
