use Prim.Native.Nat.{◌-◌}
use Rattle.page_count.proofs.Counting.{Passing}
use Rattle.page_count.proofs.count_pages.Given as goal

-- so many pages are passed, and the others end where all do
abbrev pub invariant-loop-at : goal.invariant-loop-at
invariant-loop-at l = Passing l.pages l.stop l.at l.page_count

abbrev pub decreases-loop-at : goal.decreases-loop-at
decreases-loop-at l = l.stop - l.at
