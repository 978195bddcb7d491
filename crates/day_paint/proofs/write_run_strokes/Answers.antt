-- `day_paint::write_run_strokes` meets its contract.
use Rattle.std.proofs.Common.{◌∙◌, sym, arith}
use Rattle.day_paint.proofs.StrokeReturns.{run-paints, run-skips, run-over, run_ends}
use Rattle.std.proofs.lemmas.List.{length-set}
use Rattle.day_paint.proofs.write_run_strokes.Goals.{then-is_simple, else-is_simple}
use Rattle.day_paint.proofs.write_run_strokes.Goals as goal

pub returns-then-x-s : goal.returns-then-x-s
returns-then-x-s c = c.loop-next.invariant.finishes _ _ (run-over _ _ _ c.loop-next.strokes _ 0 _ _ _ c.loop-next-test.true c.if-x-s.true)

pub loop-next-preserved : goal.loop-next-preserved
loop-next-preserved c =
    let a = c.args in
    let old = c.loop-next in
    elim c.if-is_simple.branch [
      | then-is_simple w ↦ rw (w.strokes-is, w.place-is) (record {
        room = simp length-set (omega arith);
        finishes = λ t r l.
            old.invariant.finishes t r
            (run-paints a.states.now a.spans.now old.strokes t old.place r old.next _ a.s c.loop-next-test.true c.if-x-s.false (sym c.is_simple.ensures ∙ w.if-is_simple.true) _
            w.stroke.ensures l);
      })
      | else-is_simple w ↦ rw (w.strokes-is, w.place-is) (record {
        room = omega arith;
        finishes = λ t r l.
            old.invariant.finishes t r
            (run-skips a.states.now a.spans.now old.strokes t old.place r old.next _ a.s c.loop-next-test.true c.if-x-s.false (sym c.is_simple.ensures ∙ w.if-is_simple.false) l);
      })
    ]

pub returns : goal.returns
returns c = c.loop-next.invariant.finishes _ _ (run_ends _ _ _ c.loop-next.strokes _ 0 _ _ _ c.loop-next-test.false)
