-- `point_state::few::marks_of` meets its contract: the marks have room for one more.
use Rattle.std.proofs.Common.{arith}
use Rattle.point_state.proofs.Columns.{marks-start, marks-more, marks-fit, flag-low}
use Rattle.point_state.proofs.few.marks_of.Goals as goal

pub loop-rule-init : goal.loop-rule-init
loop-rule-init c = marks-start _ _ _ _

pub overflow_mul-marks : goal.overflow_mul-marks
overflow_mul-marks c =
    let a = c.args in
    omega (arith, c.loop-rule.invariant, marks-fit a.range_counts.now a.ranges.now a.dimension c.loop-rule.rule a.value (omega arith))

pub holds_in-requires : goal.holds_in-requires
holds_in-requires c =
    (c.requires.0 _ c.loop-rule-test.true, c.requires.1)

pub overflow_add-marks : goal.overflow_add-marks
overflow_add-marks c =
    let a = c.args in
    omega (arith, c.loop-rule.invariant, marks-fit a.range_counts.now a.ranges.now a.dimension c.loop-rule.rule a.value (omega arith), c.from.ensures, flag-low c.holds_in.result)

pub loop-rule-preserved : goal.loop-rule-preserved
loop-rule-preserved c =
    marks-more _ _ _ _ _ _ _ _ c.loop-rule.invariant c.holds_in.ensures c.from.ensures
