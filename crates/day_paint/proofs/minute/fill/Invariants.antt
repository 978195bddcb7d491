-- `day_paint::minute::fill` meets its contract.
use Rattle.std.proofs.Common.{◌≡◌, ℕ, ◌-◌, ◌≤◌, get_or}
use Rattle.day_paint.specs.Minute.{filled_at}
use Rattle.day_paint.proofs.minute.fill.Given as goal

abbrev pub invariant-loop-minute : goal.invariant-loop-minute
invariant-loop-minute l = record {
  few : l.minute - l.a ≤ l.b - l.a;
  filled : (m : ℕ) → get_or l.minutes m 0 ≡ filled_at l.initial.minutes l.a l.minute l.number m;
}
