-- `day_paint::minute::run_end` meets its contract.
use Rattle.std.proofs.Common.{◌≡◌, ℕ, ◌≤◌, ◌<◌, get_or}
use Rattle.day_paint.proofs.minute.run_end.Given as goal

abbrev pub invariant-loop-next : goal.invariant-loop-next
invariant-loop-next l = (m : ℕ) → l.i ≤ m → m < l.next → get_or l.minutes m 0 ≡ l.number
