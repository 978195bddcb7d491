-- `state_at::answer::numbers_of` meets its contract: one lemma for each of its returns, a state or that it is unsettled.
use Rattle.std.proofs.Common.{◌∙◌}
use Rattle.state_at.proofs.Numbers.{state-numbers, unsettled-numbers}
use Rattle.state_at.proofs.answer.numbers_of.Goals as goal

pub returns-in-Some : goal.returns-in-Some
returns-in-Some c =
    state-numbers _ _ _ _ _ c.in-Some.is c.from-number.ensures (c.from.ensures ∙ c.kind_of.ensures) c.comment_of.ensures

pub returns-in-None : goal.returns-in-None
returns-in-None c = c.refused.ensures ∙ unsettled-numbers _ c.in-None.is
