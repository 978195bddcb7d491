-- `draining::span::time_number` meets its contract: minutes, or an event and an offset.
use mathlib.Core.Path.{sym, ap, ◌∙◌, subst}
use native.Mathlib.Omega.{arith}
use Rattle.item.specs.Answer.{as_time}
use Rattle.codes.specs.Number.{time_number}
use Rattle.codes.specs.Carried.{CarriedTime}
use Rattle.draining.proofs.span.time_number.Goals as goal

pub overflow_cast-minutes : goal.overflow_cast-minutes
overflow_cast-minutes c = let low = subst (λ t. CarriedTime (as_time t)) c.in-Fixed.is c.requires in omega (arith, low)

pub overflow_cast-event : goal.overflow_cast-event
overflow_cast-event c = let low = subst (λ t. CarriedTime (as_time t)) c.in-Variable.is c.requires in omega (arith, low.0)

pub overflow_cast-offset : goal.overflow_cast-offset
overflow_cast-offset c = let low = subst (λ t. CarriedTime (as_time t)) c.in-Variable.is c.requires in omega (arith, low.1)

pub returns-in-Fixed : goal.returns-in-Fixed
returns-in-Fixed c = c.fixed_time.ensures ∙ sym (ap (λ t. time_number (as_time t)) c.in-Fixed.is)

pub returns-in-Variable : goal.returns-in-Variable
returns-in-Variable c = c.variable_time.ensures ∙ sym (ap (λ t. time_number (as_time t)) c.in-Variable.is)
