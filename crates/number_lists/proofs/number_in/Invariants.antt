-- `number_lists::number_in` meets its contract: what is hashed and numbered before a place, and the lengths of the tables.
use Rattle.tables.specs.Days.{box_words}
use Rattle.number_lists.proofs.OneMore.{SoFar}
use Rattle.number_lists.proofs.number_in.Given as goal

abbrev pub invariant-loop-place : goal.invariant-loop-place
invariant-loop-place l = SoFar (box_words l.states l.span_counts l.spans l.lists) l.hashes l.numbers l.classes l.place
