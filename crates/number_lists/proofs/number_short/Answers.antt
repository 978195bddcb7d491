-- `number_lists::number_short` meets its contract: the words are enough for short lists.
use Rattle.std.proofs.Common.{sym, arith}
use Rattle.box_day.proofs.Kept.{ready-kept, short-ready}
use Rattle.number_lists.proofs.number_short.Goals as goal

pub number_in-requires-clause-all_ready : goal.number_in-requires-clause-all_ready
number_in-requires-clause-all_ready c =
    let a = c.args in
    let all = c.requires.all_ready in (
      ready-kept a.states.now a.span_counts.now a.spans.now a.lists.now _ _ _ (sym c.zeros-words.ensures)
          (λ i l. short-ready a.states.now a.span_counts.now a.spans.now a.lists.now i (all.0 i l) (all.1 i l)),
      omega (arith, c.zeros-words.ensures, c.zeros-other.ensures),
    )
