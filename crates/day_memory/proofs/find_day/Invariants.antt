-- `day_memory::find_day` meets its contract: no place passed has the day.
use Rattle.std.proofs.Common.{length}
use Rattle.tables.specs.Days.{box_words}
use Rattle.day_memory.proofs.Searching.{Passed}
use Rattle.day_memory.proofs.find_day.Given as goal

abbrev pub invariant-loop-before : goal.invariant-loop-before
invariant-loop-before l = Passed (box_words l.states l.span_counts l.spans l.lists) (length l.hashes) l.before
