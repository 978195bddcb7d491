-- `day_flat::fingerprint` meets its contract.
use Rattle.std.proofs.Common.{◌∙◌, arith}
use Rattle.day_flat.proofs.DayReturns.{mixed-step, mixed-end}
use Rattle.day_flat.proofs.fingerprint.Goals as goal

pub loop-word-preserved : goal.loop-word-preserved
loop-word-preserved c = record { small = omega arith; rest_decides = mixed-step c.args.words.now c.loop-word.mixed c.loop-word.word-index (omega arith) ∙ c.loop-word.invariant.rest_decides }

pub returns : goal.returns
returns c = mixed-end c.args.words.now c.loop-word.mixed c.loop-word.word-index (omega arith) ∙ c.loop-word.invariant.rest_decides
