-- The digest stays below the prime.
use Rattle.std.proofs.Common.{◌≤◌}
use Rattle.replay.proofs.year.with_month.Given as goal

abbrev pub invariant-loop-day : goal.invariant-loop-day
invariant-loop-day l = l.digest ≤ 9999999999999936
