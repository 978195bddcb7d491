-- `cutting::start_row` meets its contract: the kind's lowest and upper value are its bounds.
use Rattle.std.proofs.Common.{ap, ◌∙◌}
use Rattle.cutting.proofs.start_row.Goals as goal

pub returns : goal.returns
returns g c =
    let low = c.number-low.ensures ∙ ap g.K.Bounded.number_of c.BOUND_START.ensures ∙ g.met.K.Bounded.starts in
    let high = c.number-high.ensures ∙ ap g.K.Bounded.number_of c.BOUND_UPPER.ensures ∙ g.met.K.Bounded.upper in
    rw (← low, ← high) c.start_row.ensures
