-- `day_paint::write_strokes` meets its contract.
use Rattle.std.proofs.Common.{◌∙◌, sym, arith}
use Rattle.day_paint.proofs.StrokeReturns.{list-paints, list-runs, list-ends}
use Rattle.day_paint.proofs.write_strokes.Goals as goal

pub returns-then-not-is_simple : goal.returns-then-not-is_simple
returns-then-not-is_simple c =
    let found = sym c.is_simple.ensures ∙ c.if-not-is_simple.true in
    let laid = c.loop-i.invariant _ _ (list-runs _ _ _ _ _ _ _ _ c.loop-i-test.true found c.write_run_strokes.ensures) in
    (laid.0, omega (arith, laid.1))

pub loop-i-preserved : goal.loop-i-preserved
loop-i-preserved c = λ t r l.
    c.loop-i.invariant t r
    (list-paints c.args.states.now c.args.spans.now c.loop-i.strokes t c.loop-i.i r c.loop-i.i _ c.loop-i-test.true (sym c.is_simple.ensures ∙ c.if-not-is_simple.false) _ c.stroke.ensures l)

pub returns : goal.returns
returns c = let laid = c.loop-i.invariant _ _ (list-ends _ _ c.loop-i.strokes c.loop-i.strokes _ 0 _ _ c.loop-i-test.false) in (laid.0, omega (arith, laid.1, c.loop-i-test.false))
