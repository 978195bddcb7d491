-- A judgement refuses, or else the tables of the drained rules alone are lent.
use mathlib.Core.Path.{refl, sym}
use native.Mathlib.Omega.{arith}
use lib.Seq.{length-take-le}
use Rattle.std.proofs.Common.{rules, ◌*◌}
use Rattle.prepare.proofs.ToDraw.{drained-within, judged-fine, judged-refused}
use Rattle.lookup.proofs.Lookable.{prepared-lookable}
use Rattle.lookup.proofs.Answers.{rules-refused}
use Rattle.lookup.proofs.look_moment_in.Goals as goal

pub overflow_mul-places : goal.overflow_mul-places
overflow_mul-places c =
    let read = c.requires.rules_read.1.1 in
    let told = judged-fine _ _ _ _ _ _ _ _ _ _ _ (c.prepare-prepared.ensures _ _ read.0 read.1) _ c.in-Ok.is in
    search (rules, told.0.drawable.0.few-rules)

pub slice_bounds-rules-end : goal.slice_bounds-rules-end
slice_bounds-rules-end c =
    let read = c.requires.rules_read.1.1 in
    let fine = judged-fine _ _ _ _ _ _ _ _ _ _ _ (c.prepare-prepared.ensures _ _ read.0 read.1) _ c.in-Ok.is in
    let within = drained-within _ _ _ _ _ _ _ _ _ _ _ fine.0 _ read.1 in
    omega (arith, within, c.requires.rule_room.0, c.prepare-prepared.auto.states)

pub slice_bounds-rules-end-in-Ok : goal.slice_bounds-rules-end-in-Ok
slice_bounds-rules-end-in-Ok c =
    let read = c.requires.rules_read.1.1 in
    let fine = judged-fine _ _ _ _ _ _ _ _ _ _ _ (c.prepare-prepared.ensures _ _ read.0 read.1) _ c.in-Ok.is in
    let within = drained-within _ _ _ _ _ _ _ _ _ _ _ fine.0 _ read.1 in
    sym (length-take-le c.in-Ok.drained.rules _ (omega (arith, within, c.requires.rule_room.0, c.prepare-prepared.auto.states)))

pub slice_bounds-rules-end-in-Ok-2 : goal.slice_bounds-rules-end-in-Ok-2
slice_bounds-rules-end-in-Ok-2 c =
    let read = c.requires.rules_read.1.1 in
    let fine = judged-fine _ _ _ _ _ _ _ _ _ _ _ (c.prepare-prepared.ensures _ _ read.0 read.1) _ c.in-Ok.is in
    let within = drained-within _ _ _ _ _ _ _ _ _ _ _ fine.0 _ read.1 in
    omega (arith, within, c.requires.rule_room.1, c.prepare-prepared.auto.span_counts)

pub slice_bounds-rules-end-in-Ok-3 : goal.slice_bounds-rules-end-in-Ok-3
slice_bounds-rules-end-in-Ok-3 c =
    let read = c.requires.rules_read.1.1 in
    let fine = judged-fine _ _ _ _ _ _ _ _ _ _ _ (c.prepare-prepared.ensures _ _ read.0 read.1) _ c.in-Ok.is in
    let within = drained-within _ _ _ _ _ _ _ _ _ _ _ fine.0 _ read.1 in
    sym (length-take-le c.in-Ok.drained.rules _ (omega (arith, within, c.requires.rule_room.1, c.prepare-prepared.auto.span_counts)))

pub slice_bounds-rules-end-in-Ok-4 : goal.slice_bounds-rules-end-in-Ok-4
slice_bounds-rules-end-in-Ok-4 c =
    let read = c.requires.rules_read.1.1 in
    let fine = judged-fine _ _ _ _ _ _ _ _ _ _ _ (c.prepare-prepared.ensures _ _ read.0 read.1) _ c.in-Ok.is in
    let within = drained-within _ _ _ _ _ _ _ _ _ _ _ fine.0 _ read.1 in
    omega (arith, within, c.requires.rule_room.2, c.prepare-prepared.auto.spans)

pub slice_bounds-rules-end-in-Ok-5 : goal.slice_bounds-rules-end-in-Ok-5
slice_bounds-rules-end-in-Ok-5 c =
    let read = c.requires.rules_read.1.1 in
    let fine = judged-fine _ _ _ _ _ _ _ _ _ _ _ (c.prepare-prepared.ensures _ _ read.0 read.1) _ c.in-Ok.is in
    let within = drained-within _ _ _ _ _ _ _ _ _ _ _ fine.0 _ read.1 in
    sym (length-take-le (c.in-Ok.drained.rules * 16) _ (omega (arith, within, c.requires.rule_room.2, c.prepare-prepared.auto.spans)))

pub overflow_sub-count : goal.overflow_sub-count
overflow_sub-count c =
    let read = c.requires.rules_read.1.1 in
    let fine = judged-fine _ _ _ _ _ _ _ _ _ _ _ (c.prepare-prepared.ensures _ _ read.0 read.1) _ c.in-Ok.is in
    let within = drained-within _ _ _ _ _ _ _ _ _ _ _ fine.0 _ read.1 in
    within

pub look_drained-requires-clause-lookable : goal.look_drained-requires-clause-lookable
look_drained-requires-clause-lookable c =
    let read = c.requires.rules_read.1.1 in
    let fine = judged-fine _ _ _ _ _ _ _ _ _ _ _ (c.prepare-prepared.ensures _ _ read.0 read.1) _ c.in-Ok.is in
    let within = drained-within _ _ _ _ _ _ _ _ _ _ _ fine.0 _ read.1 in
    (_, prepared-lookable _ _ _ _ _ _ _ fine.0 refl refl refl _ read.1 (omega (arith, within, c.requires.rule_room.0, c.prepare-prepared.auto.states)))

pub returns-in-Ok : goal.returns-in-Ok
returns-in-Ok c =
    λ rs end reading many.
    let fine = judged-fine _ _ _ _ _ _ _ _ _ _ _ (c.prepare-prepared.ensures rs end reading many) _ c.in-Ok.is in
    let within = drained-within _ _ _ _ _ _ _ _ _ _ _ fine.0 _ many in
    c.look_drained.ensures rs
    (prepared-lookable _ _ _ _ _ _ _ fine.0 refl refl refl _ many (omega (arith, within, c.requires.rule_room.0, c.prepare-prepared.auto.states)))

pub returns-in-Err : goal.returns-in-Err
returns-in-Err c =
    λ rs end reading many.
    rules-refused rs _ _ _ _ _ (judged-refused _ _ _ _ _ _ _ _ _ _ _ (c.prepare-prepared.ensures rs end reading many) _ c.in-Err.is)
    c.refused.ensures
