-- `draw_rule::walk::draw_years` meets its contract. The loop's invariant: the runs before the one at hand are drawn.
use Prim.Native.Nat.{◌+◌, ◌-◌, ◌*◌}
use Rattle.draw_rule.proofs.Level.{Level}
use Rattle.draw_rule.proofs.walk.draw_years.Given as goal

abbrev pub invariant-loop-node : goal.invariant-loop-node
invariant-loop-node l = Level l.initial.cells l.initial.lists l.initial.memo l.initial.drawn.used l.initial.drawn.overflowed l.plan.rule l.plan.replaces l.plan.before l.plan.sizes.now l.plan.range_counts.now l.plan.runs.now 0 l.first l.end l.count l.cells l.lists l.memo l.drawn.used l.drawn.overflowed l.node l.range

abbrev pub decreases-loop-node : goal.decreases-loop-node
decreases-loop-node l = (l.end - l.node) * 65536 + (l.count - l.range)
