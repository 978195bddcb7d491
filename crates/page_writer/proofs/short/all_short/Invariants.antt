use Prim.Native.Nat.{◌-◌}
use Rattle.page_writer.proofs.Brief.{Passed}
use Rattle.page_writer.proofs.short.all_short.Given as goal

abbrev pub invariant-loop-page : goal.invariant-loop-page
invariant-loop-page l = Passed l.lists l.pages l.count (l.count - l._page) l.here
