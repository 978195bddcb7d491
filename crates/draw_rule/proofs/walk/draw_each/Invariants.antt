-- `draw_rule::walk::draw_each` meets its contract. The loop's invariant: the boxes before the one at hand are walked over.
use Prim.Native.Nat.{◌-◌}
use Rattle.laws.specs.Lists.{from}
use Rattle.list_store.specs.Draw.{Walked}
use Rattle.draw_rule.proofs.walk.draw_each.Given as goal

abbrev pub invariant-loop-box_index : goal.invariant-loop-box_index
invariant-loop-box_index l = Walked l.initial.cells l.initial.lists l.initial.drawn.used l.initial.drawn.overflowed l.cells l.lists l.memo l.drawn.used l.drawn.overflowed l.rule l.replaces l.before (from l.first (l.box_index - l.first))
