-- `day_paint::piece::last_meeting` meets its contract.
use Rattle.std.proofs.Common.{◌∙◌, sym, ◌≡◌, ◌+◌, ◌-◌, arith}
use Rattle.day_paint.proofs.Meeting.{last-here, last-below, last_none}
use Rattle.day_paint.proofs.piece.last_meeting.Goals as goal

pub returns-then-meets_range : goal.returns-then-meets_range
returns-then-meets_range c =
    let one : c.loop-next.next ≡ c.loop-next.next - 1 + 1 = omega arith in
    sym (last-here _ _ _ c.loop-next.next (omega arith) (sym c.meets_range.ensures ∙ c.if-meets_range.true) ∙ c.loop-next.invariant) ∙ one

pub loop-next-preserved : goal.loop-next-preserved
loop-next-preserved c = last-below _ _ _ _ (omega arith) (sym c.meets_range.ensures ∙ c.if-meets_range.false) ∙ c.loop-next.invariant

pub returns : goal.returns
returns c = sym (last_none _ _ _ c.loop-next.next (omega arith) ∙ c.loop-next.invariant)
