-- The measure of `day_flat::class::all_of_kind` is how many words are left.
use Rattle.std.proofs.Common.{length}
use Rattle.day_flat.proofs.class.+all_of_kind.Given as goal

abbrev pub decreases-all_of_kind : goal.decreases-all_of_kind
decreases-all_of_kind l = length l.words.now
