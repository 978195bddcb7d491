-- `codes::no_overlap_with_next_day` meets its contract.
use Rattle.std.proofs.Common.{arith}
use Rattle.std.proofs.lemmas.Grind.{common_steps}
use Rattle.codes.proofs.Laws.{today-number}
use Rattle.codes.proofs.no_overlap_with_next_day.Goals as goal

pub returns-then-start-end : goal.returns-then-start-end
returns-then-start-end c =
    rw (today-number c.args.span) (grind (arith, common_steps, c.start_of-start.ensures, c.end_of-end.ensures))

pub returns-else-start-end : goal.returns-else-start-end
returns-else-start-end c =
    rw (today-number c.args.span) (grind (arith, common_steps, c.start_of-start.ensures, c.end_of-end.ensures))

pub returns-else-start-lt262144 : goal.returns-else-start-lt262144
returns-else-start-lt262144 c =
    rw (today-number c.args.span) (grind (arith, common_steps, c.start_of-start.ensures, c.end_of-end.ensures))
