-- `day_paint::minute::number_state` meets its contract.
use Rattle.std.proofs.Common.{◌∙◌, ap, ◌-◌, get_or}
use Rattle.day_paint.specs.Stroke.{stroke_state}
use Rattle.day_paint.proofs.Minutes.{state-none, state-some}
use Rattle.day_paint.proofs.minute.number_state.Goals as goal

pub returns-then-number-eq0 : goal.returns-then-number-eq0
returns-then-number-eq0 c = state-none _ _ c.if-number-eq0.true

pub returns : goal.returns
returns c =
    state-some _ _ _ c.if-number-eq0.false (c.stroke_state.ensures ∙ ap (λ k. stroke_state (get_or c.args.strokes.now (k - 1) 0)) c.from.ensures)
