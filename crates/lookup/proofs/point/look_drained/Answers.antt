-- Where no list can be refused, 9 where a rule is left, else the state at the point.
use mathlib.Core.Path.{◌∙◌}
use native.Mathlib.Omega.{arith}
use borrow.Author.Tests.{not-false}
use Rattle.prepare.proofs.ToDraw.{boxes-few}
use Rattle.lookup.proofs.Answers.{left-refused, state-found}
use Rattle.lookup.proofs.Lookable.{lookable-days, lookable-rules}
use Rattle.lookup.proofs.point.look_drained.Goals as goal

pub few_lists-few-requires : goal.few_lists-few-requires
few_lists-few-requires c = let given = c.requires.lookable in (_, lookable-days _ _ _ _ given.1)

pub point_state-requires : goal.point_state-requires
point_state-requires c = let given = c.requires.lookable in (_, lookable-rules _ _ _ _ given.1)

pub returns-then-rules_left-gt0 : goal.returns-then-rules_left-gt0
returns-then-rules_left-gt0 c =
    λ rs given.
    let none-met = c.few_lists-few.ensures (not-false _ c.if-not-few.false-raw) _ (lookable-days _ _ _ _ given) in
    left-refused rs _ _ _ given.to-draw.passed.apart (boxes-few _ _ _ _ _ _ _ _ _ _ given.to-draw) none-met
    (omega (arith, c.if-rules_left-gt0.true, given.counted, given.to-draw.times.all-states)) c.refused.ensures

pub returns : goal.returns
returns c =
    λ rs given.
    let none-met = c.few_lists-few.ensures (not-false _ c.if-not-few.false-raw) _ (lookable-days _ _ _ _ given) in
    state-found rs _ _ _ given.to-draw.passed.apart (boxes-few _ _ _ _ _ _ _ _ _ _ given.to-draw) none-met
    (omega (arith, c.if-rules_left-gt0.false, given.counted, given.to-draw.times.all-states))
    (c.numbers_of.ensures ∙ c.point_state.ensures _ (lookable-rules _ _ _ _ given))
