-- `canonical_time::flatten::flatten` meets its contract.
use Rattle.std.proofs.Common.{◌≡◌, ◌∙◌, ap, ◌+◌, ◌-◌, ◌*◌, ◌≤◌, take, drop, arith, rules}
use Rattle.words.specs.Words.{part}
use Rattle.words.proofs.Sets.{part-taken}
use Rattle.canonical_time.proofs.FlattenReturns.{rule-pushed, flat_on, flat-done, named_rule}
use Rattle.canonical_time.proofs.flatten.flatten.Goals as goal

pub loop-number-preserved : goal.loop-number-preserved
loop-number-preserved c =
    let a = c.args in
    let rule = c.from-rule.result in
    let count = c.from.result in
    let few : count ≤ 16 = omega (arith, c.requires.tables.few rule, c.from.ensures) in
    let named = named_rule a.states.now a.span_counts.now a.spans.now a.list.now c.requires.tables c.loop-number.number-index rule c.loop-number-test.true
    c.from-rule.ensures in
    let n : rule * 16 + count - rule * 16 ≡ count = omega arith in
    let own : take (rule * 16 + count - rule * 16) (drop (rule * 16) a.spans.now) ≡ part a.spans.now (rule * 16) count =
    ap (λ k. take k (drop (rule * 16) a.spans.now)) n ∙ part-taken a.spans.now (rule * 16) count (omega (arith, named.2)) in
    let room = c.loop-number.invariant.room in
    flat_on _ _ _ _ _ _ _ _ _ _ _ c.loop-number.invariant c.loop-number-test.true rule count c.from-rule.ensures c.from.ensures few _ _ _
    (rule-pushed a.states.now a.spans.now rule count _ _ _ _ _ _ own (omega (arith, room.0)) (omega (arith, room.1)) (c.fill.ensures.after (λ y h. search rules)) c.copy_from_slice.ensures.after)

pub returns : goal.returns
returns c = flat-done _ _ _ _ _ _ _ _ _ _ _ c.loop-number.invariant c.loop-number-test.false
