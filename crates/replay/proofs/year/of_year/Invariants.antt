-- The digest stays below the prime.
use Rattle.std.proofs.Common.{◌≤◌}
use Rattle.replay.proofs.year.of_year.Given as goal

abbrev pub invariant-loop-month : goal.invariant-loop-month
invariant-loop-month l = l.digest ≤ 9999999999999936
