use mathlib.Core.Path.{◌≡◌, ap, ◌∙◌}
use native.Mathlib.Omega.{arith}
use Rattle.paving.specs.Grid.{marks_from}
use Rattle.paving.proofs.Room.{marks-out}
use Rattle.date_items.proofs.run_start.Goals as goal

pub loop-start-preserved : goal.loop-start-preserved
loop-start-preserved c =
    let a = c.args in
    c.loop-start.invariant ∙ marks-out a.marks.now a.base a.width c.loop-start.start (omega arith) c.if-marks-base-eq1.false

pub returns : goal.returns
returns c =
    let a = c.args in
    let all : c.loop-start.start ≡ a.width = omega arith in
    (omega arith, omega arith, (λ h. absurd (omega arith)), c.loop-start.invariant ∙ ap (marks_from a.marks.now a.base a.width) all)
