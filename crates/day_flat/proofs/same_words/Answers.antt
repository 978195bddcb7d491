-- `day_flat::same_words` meets its contract.
use Rattle.day_flat.proofs.DayReturns.{same-pointwise}
use Rattle.day_flat.proofs.same_words.Goals as goal

pub returns : goal.returns
returns c = cc (same-pointwise c.args.a.now c.args.b.now)
