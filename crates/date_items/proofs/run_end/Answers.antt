use mathlib.Core.Path.{◌≡◌, sym, ◌∙◌}
use native.Mathlib.Omega.{arith}
use Rattle.date_items.proofs.Returns.{end-last, end-here, end-next}
use Rattle.date_items.proofs.run_end.Goals as goal

pub returns-then-marks-base-ne1 : goal.returns-then-marks-base-ne1
returns-then-marks-base-ne1 c =
    let a = c.args in
    end-here a.marks.now a.base a.width c.loop-end.end (omega arith) c.if-marks-base-ne1.true ∙ c.loop-end.invariant

pub loop-end-preserved : goal.loop-end-preserved
loop-end-preserved c =
    let a = c.args in
    sym (end-next a.marks.now a.base a.width c.loop-end.end (omega arith) c.if-marks-base-ne1.false) ∙ c.loop-end.invariant

pub returns : goal.returns
returns c =
    let a = c.args in
    let all : a.width ≡ c.loop-end.end = omega arith in
    all ∙ end-last a.marks.now a.base a.width c.loop-end.end (omega arith) ∙ c.loop-end.invariant
