-- `state_at::list::after_span` meets its contract, by the minutes of a simple span.
use Rattle.std.proofs.Common.{arith}
use Rattle.std.proofs.lemmas.Grind.{common_steps}
use Rattle.codes.specs.Number.{time_number}
use Rattle.state_at.proofs.Walk.{within-number}
use Rattle.state_at.proofs.list.after_span.Goals as goal

pub returns-then-time-end_of : goal.returns-then-time-end_of
unfolding time_number
returns-then-time-end_of c =
    rw (within-number c.args.span c.args.minute c.requires) (grind (arith, common_steps, c.fixed_time-time.ensures, c.start_of.ensures, c.end_of.ensures))

pub returns-else-start_of-time : goal.returns-else-start_of-time
unfolding time_number
returns-else-start_of-time c =
    rw (within-number c.args.span c.args.minute c.requires) (grind (arith, common_steps, c.fixed_time-time.ensures, c.start_of.ensures))
