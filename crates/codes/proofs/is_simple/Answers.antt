-- `codes::is_simple` meets its contract.
use Rattle.std.proofs.Common.{arith}
use Rattle.std.proofs.lemmas.Grind.{common_steps}
use Rattle.codes.proofs.Laws.{simple-number}
use Rattle.codes.proofs.is_simple.Goals as goal

pub returns-then-start-end : goal.returns-then-start-end
returns-then-start-end c =
    rw (simple-number c.args.span) (grind (arith, common_steps, c.start_of-start.ensures, c.end_of-end.ensures))

pub returns-else-start-end : goal.returns-else-start-end
returns-else-start-end c =
    rw (simple-number c.args.span) (grind (arith, common_steps, c.start_of-start.ensures, c.end_of-end.ensures))
