-- `day_flat::fingerprint` meets its contract.
use Rattle.std.proofs.Common.{◌≡◌, ◌<◌, drop}
use Rattle.day_flat.specs.Day.{fingerprint_of}
use Rattle.day_flat.proofs.fingerprint.Given as goal

abbrev pub invariant-loop-word : goal.invariant-loop-word
invariant-loop-word l = record {
  small : l.mixed < 1000003;
  rest_decides : fingerprint_of l.mixed (drop l.word-index l.words) ≡ fingerprint_of 0 l.words;
}
